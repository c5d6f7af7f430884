-- Facts: sound records, the word of a fact, and a fact sheet's loops and refusals by the laws for records in a row.
use mathlib.Core.Path.{◌≡◌, refl, sym, ap, ◌∙◌, subst}
use Prim.Native.Nat.{ℕ, ◌+◌, ◌*◌, ◌/◌, ◌%◌, ◌^◌, ◌≤◌, ◌<◌}
use native.Mathlib.Nat.{div-one}
use native.Mathlib.Decide.{ℕ_discrete}
use native.Mathlib.Omega.{arith}
use mathlib.Core.Bool.{Bool, true, false, ◌&&◌, ◌||◌}
use mathlib.Core.List.{List, ◌++◌, map, map-map}
use lib.Dec.{T, eqb, leb}
use lib.ListN.{length, get_or, take, set, length-map, length-set}
use lib.Pow.{shr-shr, high, low}
use lib.Seq.{get_or-set_same, get_or-set_other}
use borrow.Author.Count.{below_more}
use borrow.Author.Rules.{rules}
use borrow.Author.Tests.{eq-eqb, ne_eqb, eqb-true, leb-true}
use Rattle.theory.specs.Lists.{pick, all}
use Rattle.theory.specs.Refusals.{first_refusal}
use Rattle.theory.specs.Laws.Options.{T_and, is_true}
use Rattle.theory.specs.Syntax.{concept, role, Fact}
use Rattle.words.specs.FactWords.{FactWord, FactWords}
use Rattle.words.specs.Limits.{sheet_width, object_bound, most_facts, most_fact_bytes, record_bytes}
use Rattle.words.specs.Records.{field, fact_kind, fact_zeros, fact_name, fact_first, fact_second, fact_of}
use Rattle.words.specs.Words.{facts_in, word_fact}
use Rattle.sheets.specs.Format.{fact_records, facts_of}
use Rattle.sheets.specs.Partners.{is_higher, lower, atom_as_read}
use Rattle.sheets.specs.Reading.{facts_as_read}
use Rattle.sheets.specs.Refusals.{fact_refusals, number_of}
use Rattle.sheets.specs.Tests.{fact_sound, refuses12, refuses13}
use Rattle.sheets.specs.Laws.RecordLoops.{Nth, left}
use Rattle.sheets.proofs.Laws.RecordLoops.{row_laws, row_length, test_begins, test_ends, test_passed, test_failed, fill_begins}
use Rattle.sheets.proofs.Laws.RecordLoops.{fill_goes_on, fill_ends, no_multiple, too_long, unsound_record, no_refusal}
use Rattle.read_records.specs.ReadIntoLaws.{sheet_refused, sheet_read}
use Rattle.read_facts.specs.FactSheets.{FactsRead, HoldsFacts, Widened, HasFields}

-- ---- a record's three zero bits, and a concept's second object; z, k and b are the fields that the code took

pub sound_tested : (x z k b : ℕ) → z ≡ fact_zeros sheet_width x → k ≡ fact_kind sheet_width x → k < 2 → b ≡ fact_second sheet_width x
    → (eqb z 0 && (eqb k 1 || eqb b 0)) ≡ fact_sound sheet_width x
unfolding fact_sound
sound_tested x z k b ez ek few eb = rw (← ez, ← ek, ← eb) (ap (λ t. eqb z 0 && t) (by_kind (ℕ_discrete k 0)))
  where
    by_kind : Dec (k ≡ 0) → (eqb k 1 || eqb b 0) ≡ pick (eqb k 0) (eqb b 0) true
    by_kind (yes e) = rw e refl
    by_kind (no e) = let one : k ≡ 1 = omega arith in rw one refl

pub is_sound : (x : ℕ) (r : Bool) → r ≡ fact_sound sheet_width x → r ≡ true → fact_sound sheet_width x ≡ true
is_sound x r e t = sym e ∙ t

-- ---- the word of a fact

module _ (k n a b r : ℕ) (h : HasFields k n a b r) where
  of_word : word_fact r ≡ pick (eqb k 0) (concept n a) (role n a b)
  unfolding fact_of
  of_word = rw (h.kind_is, h.name_is, h.first_is, h.second_is)

  whole_word : (k ≡ 0 → b ≡ 0) → a < object_bound → b < object_bound → FactWord r
  whole_word empty la lb = record {
    zeros = h.zeros;
    empty = λ z. h.second_is ∙ empty (sym h.kind_is ∙ z);
    first_low = rw h.first_is la;
    second_low = rw h.second_is lb;
  }

pub is_higher_lem : (ps : List ℕ) (n m : ℕ) (h : Bool) → h ≡ is_higher ps n → h ≡ true → n ≡ m → is_higher ps m ≡ true
is_higher_lem ps n m h e t d = ap (is_higher ps) (sym d) ∙ sym e ∙ t

-- k, n and a are the record's kind, number and first object

module _ (ps : List ℕ) (x k n a r : ℕ) (ek : k ≡ fact_kind sheet_width x) (en : n ≡ fact_name sheet_width x)
    (ea : a ≡ fact_first sheet_width x)
    (la : a < object_bound) where
  -- a concept's fact
  as_concept : k ≡ 0 → concept n a ≡ atom_as_read ps (fact_of sheet_width x)
  unfolding fact_of atom_as_read
  as_concept z = rw (← ek, z, ← en, ← ea) refl

  module _ (z : k ≡ 0) (h : HasFields 0 n a 0 r) where
    pub concept_read : word_fact r ≡ atom_as_read ps (fact_of sheet_width x)
    concept_read = of_word 0 n a 0 r h ∙ as_concept z

    pub concept_whole : FactWord r
    concept_whole = whole_word 0 n a 0 r h (λ e. refl) la (omega arith)

  -- a role's, the higher of two partners
  module _ (role-kind : k ≡ 0 → ⊥) (b m : ℕ) (eb : b ≡ fact_second sheet_width x) (lb : b < object_bound) (em : m ≡ lower ps n)
      (h : HasFields 1 m b a r) where
    pub role_exchanged : is_higher ps (fact_name sheet_width x) ≡ true → word_fact r ≡ atom_as_read ps (fact_of sheet_width x)
    unfolding fact_of atom_as_read
    role_exchanged t =
        of_word 1 m b a r h ∙ rw (em, en, ea, eb, ne_eqb (fact_kind sheet_width x) 0 (λ e. role-kind (ek ∙ e)), t) refl

    pub exchanged_whole : FactWord r
    exchanged_whole = whole_word 1 m b a r h (λ e. absurd (omega arith)) lb la

-- ---- any other fact: the record with wider objects

-- what stands above the objects
upper_field : (r x k width : ℕ) → r / 2 ^ 48 ≡ x / 2 ^ 32 → field (48 + k) width r ≡ field (32 + k) width x
upper_field r x k width e = ap (λ y. y % 2 ^ width) (sym (shr-shr r 48 k) ∙ ap (λ y. y / 2 ^ k) e ∙ shr-shr x 32 k)

low_bits : (y : ℕ) → y % 2 ^ 16 < 2 ^ 24
low_bits y = omega arith

-- h, m and l are what the record is put together from
pub wide_fields : (x h m l : ℕ) → h ≡ x / 2 ^ 32 → m ≡ x / 2 ^ 16 % 2 ^ 16 → l ≡ x % 2 ^ 16 → Widened x (h * 2 ^ 48 + m * 2 ^ 24 + l)
wide_fields x h m l eh em el = subst (Widened x) regrouped (record {
  kind_is = upper_field r x 15 1 (upper ∙ eh);
  zeros_are = upper_field r x 12 3 (upper ∙ eh);
  name_is = upper_field r x 0 12 (upper ∙ eh);
  first_is = ap (λ y. y % 2 ^ 24) (high (h * 2 ^ 24 + m) 24 l_low) ∙ low h 24 m_low ∙ em;
  second_is = ap (λ y. y % 2 ^ 24) (div-one r) ∙ low (h * 2 ^ 24 + m) 24 l_low ∙ el ∙ ap (λ y. y % 2 ^ 16) (sym (div-one x));
})
  where
    r : ℕ
    r = (h * 2 ^ 24 + m) * 2 ^ 24 + l

    regrouped : r ≡ h * 2 ^ 48 + m * 2 ^ 24 + l
    regrouped = omega arith

    m_low : m < 2 ^ 24
    m_low = rw em (low_bits (x / 2 ^ 16))

    l_low : l < 2 ^ 24
    l_low = rw el (low_bits x)

    upper : r / 2 ^ 48 ≡ h
    upper = sym (shr-shr r 24 24) ∙ ap (λ y. y / 2 ^ 24) (high (h * 2 ^ 24 + m) 24 l_low) ∙ high h 24 m_low

module _ (x f : ℕ) (w : Widened x f) where
  pub widened_whole : fact_sound sheet_width x ≡ true → FactWord f
  unfolding fact_sound
  widened_whole sound = record {
    zeros = w.zeros_are ∙ eqb-true (fact_zeros sheet_width x) 0 (is_true (eqb (fact_zeros sheet_width x) 0) both.0);
    empty = λ z.
        w.second_is
        ∙ eqb-true (fact_second sheet_width x) 0 (is_true (eqb (fact_second sheet_width x) 0) (second (sym w.kind_is ∙ z)));
    first_low = rw w.first_is (omega arith);
    second_low = rw w.second_is (omega arith);
  }
    where
      both : T (eqb (fact_zeros sheet_width x) 0) × T (pick (eqb (fact_kind sheet_width x) 0) (eqb (fact_second sheet_width x) 0) true)
      both =
          (T_and (eqb (fact_zeros sheet_width x) 0) (pick (eqb (fact_kind sheet_width x) 0) (eqb (fact_second sheet_width x) 0) true)).0
          (subst T (sym sound) tt)

      second : fact_kind sheet_width x ≡ 0 → T (eqb (fact_second sheet_width x) 0)
      second z = subst (λ b. T (pick b (eqb (fact_second sheet_width x) 0) true)) (eq-eqb (fact_kind sheet_width x) 0 z) both.1

  pub widened_read : (ps : List ℕ) (n : ℕ) (h : Bool) → n ≡ fact_name sheet_width x → h ≡ is_higher ps n → h ≡ false
      → word_fact f ≡ atom_as_read ps (fact_of sheet_width x)
  unfolding fact_of atom_as_read
  widened_read ps n h en eh t =
      rw (w.kind_is, w.name_is, w.first_is, w.second_is)
      (as_it_is (eqb (fact_kind sheet_width x) 0) (ap (is_higher ps) (sym en) ∙ sym eh ∙ t))
    where
      as_it_is : (b : Bool) → is_higher ps (fact_name sheet_width x) ≡ false
          → pick b (concept (fact_name sheet_width x) (fact_first sheet_width x))
          (role (fact_name sheet_width x) (fact_first sheet_width x) (fact_second sheet_width x))
          ≡ atom_as_read ps (pick b (concept (fact_name sheet_width x) (fact_first sheet_width x))
          (role (fact_name sheet_width x) (fact_first sheet_width x) (fact_second sheet_width x)))
      as_it_is true e = refl
      as_it_is false e = sym (rw e refl)

-- ---- the table

-- what is read of a record
abbrev pub fact_read : List ℕ → ℕ → Fact
fact_read ps x = atom_as_read ps (fact_of sheet_width x)

abbrev pub fact_count : List ℕ → ℕ
fact_count s = length s / record_bytes sheet_width

-- the facts from the i-th record on
abbrev pub facts_left : List ℕ → List ℕ → ℕ → List Fact
facts_left ps s i = map (fact_read ps) (left (record_bytes sheet_width) s 0 (fact_count s) i)

module _ (ps s : List ℕ) where
  as_read : facts_as_read ps sheet_width s ≡ map (fact_read ps) (fact_records sheet_width s)
  unfolding facts_as_read facts_of
  as_read = map-map (atom_as_read ps) (fact_of sheet_width) (fact_records sheet_width s)

  pub facts_filled : (table : List ℕ) (i : ℕ) → i ≤ fact_count s → fact_count s ≤ i
      → map word_fact (take i table) ++ facts_left ps s i ≡ map (fact_read ps) (fact_records sheet_width s)
      → facts_in table (fact_count s) ≡ facts_as_read ps sheet_width s
  unfolding facts_in
  facts_filled table i most past so_far =
      fill_ends word_fact (fact_read ps) (record_bytes sheet_width) s 0 (fact_count s) table i
      (map (fact_read ps) (fact_records sheet_width s))
      so_far most past
      ∙ sym as_read

  facts_counted : fact_count s ≡ length (facts_as_read ps sheet_width s)
  facts_counted =
      sym (ap length as_read ∙ length-map (fact_records sheet_width s) (fact_read ps)
      ∙ row_length (record_bytes sheet_width) s 0 (fact_count s))

-- its words, bit for bit
no_words : (table : List ℕ) → FactWords table 0
no_words table = record { each = λ i h. absurd (omega arith) }

word_more : (table : List ℕ) (i v : ℕ) → FactWords table i → i < length table → FactWord v → FactWords (set table i v) (i + 1)
word_more table i v h room w = record {
  each = below_more (λ j. FactWord (get_or (set table i v) j 0)) i
      (λ j m. subst FactWord (sym (get_or-set_other table i j v 0 (λ e. omega arith))) (h.each j m))
      (subst FactWord (sym (get_or-set_same table i v 0 room)) w);
}

-- the records before i are sound and their facts are in the table
pub record Filling (ps s table₀ table : List ℕ) (i : ℕ) : Type 0 where
  pub within : i ≤ fact_count s
  pub same_length : length table ≡ length table₀
  pub room : fact_count s ≤ length table
  pub words : FactWords table i
  pub tested : all (fact_sound sheet_width) (left (record_bytes sheet_width) s 0 (fact_count s) i)
      ≡ all (fact_sound sheet_width) (fact_records sheet_width s)
  pub so_far : map word_fact (take i table) ++ facts_left ps s i ≡ map (fact_read ps) (fact_records sheet_width s)

module _ (ps s table₀ : List ℕ) where
  pub filling_begun : fact_count s ≤ length table₀ → Filling ps s table₀ table₀ 0
  filling_begun h = record {
    within = omega arith;
    same_length = refl;
    room = h;
    words = no_words table₀;
    tested = test_begins (fact_sound sheet_width) (record_bytes sheet_width) s 0 (fact_count s);
    so_far = fill_begins word_fact (fact_read ps) (record_bytes sheet_width) s 0 (fact_count s) table₀;
  }

  module _ (table : List ℕ) (i : ℕ) (f : Filling ps s table₀ table i) where
    pub filling_ended : fact_count s ≤ i → HoldsFacts ps s table
    filling_ended past = let e : i ≡ fact_count s = omega (arith, f.within) in record {
      facts = facts_filled ps s table i f.within past f.so_far;
      words = subst (FactWords table) e f.words;
    }

    pub all_tested : fact_count s ≤ i → true ≡ all (fact_sound sheet_width) (fact_records sheet_width s)
    all_tested = test_ends (fact_sound sheet_width) (record_bytes sheet_width) s 0 (fact_count s) i _ f.tested

    module _ (h : i < fact_count s) (x : ℕ) (r : Bool) (e : r ≡ fact_sound sheet_width x)
        (here : Nth (record_bytes sheet_width) s 0 i x) where
      pub filling_failed : r ≡ false → false ≡ all (fact_sound sheet_width) (fact_records sheet_width s)
      filling_failed = test_failed (fact_sound sheet_width) (record_bytes sheet_width) s 0 (fact_count s) i _ f.tested h x r e here

      pub filling_on : (v : ℕ) → r ≡ true → word_fact v ≡ fact_read ps x → FactWord v → Filling ps s table₀ (set table i v) (i + 1)
      filling_on v t word whole = record {
        within = omega arith;
        same_length = length-set table i v ∙ f.same_length;
        room = rw (length-set table i v) f.room;
        words = word_more table i v f.words (omega (arith, f.room)) whole;
        tested = test_passed (fact_sound sheet_width) (record_bytes sheet_width) s 0 (fact_count s) i _ f.tested h x r e here t;
        so_far =
            fill_goes_on word_fact (fact_read ps) (record_bytes sheet_width) s 0 (fact_count s) table i _ f.so_far x v h f.room word
            here;
      }

pub unless_sound : (ps s table : List ℕ) → false ≡ true → HoldsFacts ps s table
unless_sound ps s table e = absurd (subst T (sym e) tt)

-- ---- the sheet's refusals

pub facts_refused : (ps s table : List ℕ) (k : ℕ) → leb 1 k ≡ true → k ≡ number_of (first_refusal (fact_refusals sheet_width s))
    → FactsRead ps s table k 0
facts_refused ps s table k some is = record {
  sheet =
      sheet_refused (number_of (first_refusal (fact_refusals sheet_width s))) (facts_as_read ps sheet_width s) (facts_in table) most_facts
      k 0 k refl some is refl;
  words = no_words table;
}

module _ (s : List ℕ) where
  abbrev sound : Bool
  sound = all (fact_sound sheet_width) (fact_records sheet_width s)

  pub facts_odd : (length s % record_bytes sheet_width ≡ 0 → ⊥) → 12 ≡ number_of (first_refusal (fact_refusals sheet_width s))
  unfolding fact_refusals refuses12 refuses13
  facts_odd = no_multiple 12 13 (record_bytes sheet_width) (most_fact_bytes sheet_width) s sound

  module _ (even : length s % record_bytes sheet_width ≡ 0) (limit : ℕ) where
    pub facts_long : limit < length s → leb (most_fact_bytes sheet_width) limit ≡ true
        → 12 ≡ number_of (first_refusal (fact_refusals sheet_width s))
    unfolding fact_refusals refuses12 refuses13
    facts_long = too_long 12 13 (record_bytes sheet_width) (most_fact_bytes sheet_width) s sound even limit

    module _ (short : length s ≤ limit) (l : leb limit (most_fact_bytes sheet_width) ≡ true) (r : Bool) (e : r ≡ sound) where
      pub unsound_fact : r ≡ false → 13 ≡ number_of (first_refusal (fact_refusals sheet_width s))
      unfolding fact_refusals refuses12 refuses13
      unsound_fact f = unsound_record 12 13 (record_bytes sheet_width) (most_fact_bytes sheet_width) s sound even limit short l (sym e ∙ f)

      pub facts_read : (ps table : List ℕ) → r ≡ true → (r ≡ true → HoldsFacts ps s table) → FactsRead ps s table 0 (fact_count s)
      unfolding fact_refusals refuses12 refuses13
      facts_read ps table t holds = record {
        sheet =
            sheet_read (number_of (first_refusal (fact_refusals sheet_width s))) (facts_as_read ps sheet_width s)
            (facts_in table) most_facts
            0 (fact_count s) refl
            (no_refusal 12 13 (record_bytes sheet_width) (most_fact_bytes sheet_width) s sound even limit short l (sym e ∙ t))
            (holds t).facts (facts_counted ps s) (omega (arith, leb-true limit (most_fact_bytes sheet_width) l));
        words = (holds t).words;
      }

pub ruleset laws = (
  rules,
  row_laws,
  sound_tested,
  is_sound,
  is_higher_lem,
  concept_read,
  concept_whole,
  role_exchanged,
  exchanged_whole,
  wide_fields,
  widened_read,
  widened_whole,
  filling_begun,
  filling_ended,
  all_tested,
  filling_failed,
  filling_on,
  unless_sound,
  facts_refused,
  facts_odd,
  facts_long,
  unsound_fact,
  facts_read,
)
