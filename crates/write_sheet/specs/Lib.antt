pub mod PutAt
