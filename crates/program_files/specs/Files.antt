-- The programs' files and the buffers that they are read into. 01: "It reads rules.bin, question.bin, union.bin and facts.bin; an
-- absent file is empty, one over its limit (2,048, 61, 33,282 and 60,000 bytes in that order) meets 1, 3, 6 or 12."
use Rattle.std.specs.Prelude.{◌≡◌, ◌⊎◌, ℕ, suc, ◌+◌, ◌≤◌, Bool, false, List, length, take}
use Rattle.words.specs.Limits.{sheet_width, most_rule_bytes, most_question_bytes, most_union_bytes, most_fact_bytes}
use Rattle.promises.specs.Ascii.{ascii}
use Rattle.promises.specs.Text.{text_for}
use Rattle.promises.specs.Output.{output_for, error_for}
use Rattle.promises.specs.Counts.{IsPrefixLen}

-- ---- names and limits

-- "rules.bin": "2,048"
abbrev pub rules_limit : ℕ
rules_limit = most_rule_bytes

-- "question.bin": "61"
abbrev pub question_limit : ℕ
question_limit = most_question_bytes sheet_width

-- "union.bin": "33,282"
abbrev pub union_limit : ℕ
union_limit = most_union_bytes sheet_width

-- "facts.bin": "60,000"
abbrev pub facts_limit : ℕ
facts_limit = most_fact_bytes sheet_width

pub data File : Type 0 where
  rules_file : File
  question_file : File
  union_file : File
  facts_file : File

abbrev pub file_name : File → List ℕ
file_name rules_file = ascii "rules.bin"
file_name question_file = ascii "question.bin"
file_name union_file = ascii "union.bin"
file_name facts_file = ascii "facts.bin"

abbrev pub limit_of : File → ℕ
limit_of rules_file = rules_limit
limit_of question_file = question_limit
limit_of union_file = union_limit
limit_of facts_file = facts_limit

-- ---- buffers

-- A file is read into a buffer with room for one byte beyond its limit: a longer file fills it, and is then refused for its length.
pub record Reads (name buffer : List ℕ) : Type 0 where
  pub file : File
  pub named : name ≡ file_name file
  pub room : length buffer ≡ suc (limit_of file)

-- one read behind the first `done` bytes of a buffer
pub record Grown (before : List ℕ) (done : ℕ) (after : List ℕ) (whole : Bool) (count : ℕ) : Type 0 where
  -- what was there stays as it is
  pub kept : take done after ≡ take done before
  -- what came lies behind it in the buffer, which is as long as before
  pub within : done + count ≤ length after
  pub long : length after ≡ length before
  -- a read that failed brought nothing
  pub failed : whole ≡ false → count ≡ 0

-- so many bytes at the start of a buffer were read, which is as long as before
pub record Taken (before after : List ℕ) (count : ℕ) : Type 0 where
  pub within : IsPrefixLen count after
  pub long : length after ≡ length before

-- the four buffers, with room for one byte beyond each limit
pub record Rooms (rules question union facts : List ℕ) : Type 0 where
  pub of_rules : length rules ≡ suc rules_limit
  pub of_question : length question ≡ suc question_limit
  pub of_union : length union ≡ suc union_limit
  pub of_facts : length facts ≡ suc facts_limit

-- the same, with so many bytes read into each
pub record Filled (rules : List ℕ) (r : ℕ) (question : List ℕ) (q : ℕ) (union : List ℕ) (u : ℕ) (facts : List ℕ) (f : ℕ) : Type 0 where
  pub rooms : Rooms rules question union facts
  pub of_rules : IsPrefixLen r rules
  pub of_question : IsPrefixLen q question
  pub of_union : IsPrefixLen u union
  pub of_facts : IsPrefixLen f facts

-- the first two of them, which are all that `write_union` reads
pub record TwoRooms (rules question : List ℕ) : Type 0 where
  pub of_rules : length rules ≡ suc rules_limit
  pub of_question : length question ≡ suc question_limit

pub record TwoFilled (rules : List ℕ) (r : ℕ) (question : List ℕ) (q : ℕ) : Type 0 where
  pub rooms : TwoRooms rules question
  pub of_rules : IsPrefixLen r rules
  pub of_question : IsPrefixLen q question

-- ---- the text

-- so many bytes of a file were read into a buffer: its first, up to its end or to the buffer's. This is what reading is taken to do; what
-- the operating system does is not proved.
pub record HoldsFile (file buffer : List ℕ) (count : ℕ) : Type 0 where
  pub bytes : take count buffer ≡ take count file
  pub ended : (count ≡ length file) ⊎ (count ≡ length buffer)

-- the text for four buffers with so many bytes read into each
pub record TextOf (rules : List ℕ) (r : ℕ) (question : List ℕ) (q : ℕ) (union : List ℕ) (u : ℕ) (facts : List ℕ) (f : ℕ)
    (text : List ℕ) : Type 0 where
  -- what was read is four sheets, and this is their text
  pub sheets : text ≡ text_for (take r rules) (take q question) (take u union) (take f facts)
  -- and it is the text for the four files that were read, however long they are
  pub files : (rules' question' union' facts' : List ℕ) → HoldsFile rules' rules r → HoldsFile question' question q
      → HoldsFile union' union u
      → HoldsFile facts' facts f → text ≡ text_for rules' question' union' facts'

-- a text that may be printed: that of some four sheets, whole
pub record Printable (text : List ℕ) : Type 0 where
  pub rules : List ℕ
  pub question : List ℕ
  pub union : List ℕ
  pub facts : List ℕ
  pub whole : text ≡ text_for rules question union facts

-- ---- what `write_union` writes

-- what goes to standard output and to standard error, for two buffers with so many bytes read into each
pub record OutputOf (rules : List ℕ) (r : ℕ) (question : List ℕ) (q : ℕ) (output error : List ℕ) : Type 0 where
  -- what was read is two sheets, and this is written for them
  pub sheets_output : output ≡ output_for (take r rules) (take q question)
  pub sheets_error : error ≡ error_for (take r rules) (take q question)
  -- and it is what is written for the two files that were read, however long they are
  pub files : (rules' question' : List ℕ) → HoldsFile rules' rules r → HoldsFile question' question q
      → (output ≡ output_for rules' question') × (error ≡ error_for rules' question')

-- bytes that may go to standard output, a line that may go to standard error: those of some two sheets, whole
pub record Output (bytes : List ℕ) : Type 0 where
  pub rules : List ℕ
  pub question : List ℕ
  pub whole : bytes ≡ output_for rules question

pub record ErrorLine (text : List ℕ) : Type 0 where
  pub rules : List ℕ
  pub question : List ℕ
  pub whole : text ≡ error_for rules question
