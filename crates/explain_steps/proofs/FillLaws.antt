-- The places from a member back, put into the list one after another.
use mathlib.Core.Path.{◌≡◌, refl, sym, ap, ap₂, ◌∙◌, subst}
use mathlib.Core.Logic.{inl, inr}
use Prim.Native.Nat.{ℕ, zero, suc, ◌+◌, ◌-◌, ◌*◌, ◌/◌, ◌%◌, ◌≤◌, ◌<◌}
use native.Mathlib.Omega.{arith}
use mathlib.Core.List.{List, [], ◌∷◌, ◌++◌, flat_map, append-nil, append_assoc}
use lib.ListN.{length, get_or, take, drop, replicate, length-append, length-drop, drop_of_length-le}
use lib.Seq.{take_at, take_all, length-take-le}
use borrow.Author.Rules.{rules}
use Rattle.theory.specs.Lists.{◌∈◌}
use Rattle.theory.specs.Syntax.{var, Rule, Step, Member, UCQ, terms}
use Rattle.theory.specs.Targets.{target_at, no_target}
use Rattle.theory.specs.Explaining.{ExplainedStep, PlaceOf, WayBack}
use Rattle.theory.specs.Laws.Lists.{at_unique, flat_map_append, get_d_within}
use Rattle.theory.proofs.Laws.Equivalence.{term_into}
use Rattle.theory.proofs.Laws.Targets.{stands_or_not}
use Rattle.theory.specs.Laws.Explaining.{Behind}
use Rattle.theory.proofs.Laws.Explaining.{way_behind, behind_unique}
use Rattle.words.specs.Limits.{place_size}
use Rattle.std.specs.Prelude.{Result, Err}
use Rattle.words.specs.declared.refusals.Refusal.{Refusal}
use Rattle.words.specs.declared.refusals.Refusal.TheVariants.{StepsTooShort}
use Rattle.words.specs.Refusals.{number_in, count_in}
use Rattle.words.specs.Records.{step_of, step_parent}
use Rattle.words.specs.Words.{union_in}
use Rattle.words.specs.Rows.{Rows, member_in}
use Rattle.words.specs.Laws.Rows.{step_within, step_there, union_at}
use Rattle.sheets.specs.Packing.{bytes_of, pack_records}
use Rattle.sheets.specs.StepList.{place_bytes, step_list}
use Rattle.explain_place.specs.Places.{step_of_place, bytes_of_place}
use Rattle.explain_place.specs.declared.Place.{Place}
use Rattle.explain_steps.specs.Filling.{RoomFor, FilledBack, TellsFrom}
use Rattle.explain_steps.proofs.StepsLaws.{parent_there, made_earlier, climb_less}

-- ---- a place in bytes

-- bytes packed one by one are themselves
bytes_same : (xs : List ℕ) → ((i : ℕ) → i < length xs → get_or xs i 0 < 256) → pack_records 1 xs ≡ xs
unfolding pack_records bytes_of flat_map
bytes_same [] h = refl
bytes_same (x ∷ xs) h =
    let e : x % 256 ≡ x = (let l : x < 256 = h 0 (omega arith) in omega arith) in
    ap₂ ◌∷◌ e (bytes_same xs (λ i l. h (suc i) (omega arith)))

module _ (rules : List Rule) (table : List ℕ) (n k : ℕ) (rows : Rows table n) (few : n ≤ 512) (h : k < n) (p : Place)
    (place : PlaceOf rules (union_in table n) k (step_of_place p)) where
  abbrev m : Member
  m = member_in table k

  same_member_lem : place.reached ≡ m
  same_member_lem = at_unique (union_in table n) k place.there (union_at table n k h)

  abbrev word : ℕ
  word = get_or table (16 * k) 0

  same_fields : (step_of_place p).step ≡ step_of word
  same_fields = place.written ∙ ap (λ (o : Member). o.step) same_member_lem ∙ step_there table k

  -- a target is a variable of the member, or there is none
  low_target : (v : ℕ) → target_at p.targets v ≤ 32
  low_target v = elim (stands_or_not v (terms place.result)) [
    | inl s ↦ (let e : target_at p.targets v ≡ place.renamed.fits.renaming.to v = place.renamed.fits.sent v s in
        let into = term_into place.result place.reached.query place.renamed.fits.renaming s in
        let l : place.renamed.fits.renaming.to v < 32 = (rows.each k h).variables (place.renamed.fits.renaming.to v)
        (subst (λ (o : Member). var (place.renamed.fits.renaming.to v) ∈ terms o.query) same_member_lem into) in
        omega arith)
    | inr f ↦ (let e : target_at p.targets v ≡ 32 = place.renamed.fits.unsent v f in omega arith)
  ]

  low_at : (i : ℕ) → i < length p.targets → get_or p.targets i 0 < 256
  low_at i l =
      let e : get_or p.targets i 0 ≡ target_at p.targets i = get_d_within p.targets i 0 no_target l in
      let t = low_target i in omega arith

  pub targets_long : length p.targets ≡ 32
  targets_long = place.renamed.fits.long

  -- its fields fit their bytes
  pub place_packed : bytes_of_place p ≡ place_bytes (step_of_place p)
  unfolding place_bytes bytes_of step_of
  place_packed =
      let member : p.member ≡ k = place.number_is in
      let kind : p.kind ≡ word / 1073741824 % 4 = ap (λ (s : Step). s.kind) same_fields in
      let parent : p.parent ≡ word / 1048576 % 1024 = ap (λ (s : Step). s.parent) same_fields in
      let atom : p.atom ≡ word / 65536 % 16 = ap (λ (s : Step). s.atom) same_fields in
      let other : p.other ≡ word / 1 % 65536 = ap (λ (s : Step). s.other) same_fields in
      let a : p.member / 256 % 256 ≡ p.member / 256 = omega arith in
      let b : p.kind % 256 ≡ p.kind = omega arith in
      let c : p.parent / 256 % 256 ≡ p.parent / 256 = omega arith in
      let d : p.atom % 256 ≡ p.atom = omega arith in
      let e : p.other / 256 % 256 ≡ p.other / 256 = omega arith in
      sym (rw (a, b, c, d, e, bytes_same p.targets low_at) refl)

  place_long : length (bytes_of_place p) ≡ 40
  place_long = let l = targets_long in omega arith

-- ---- the part of the list that is lent

-- all from there on is lent
module _ (list : List ℕ) (from : ℕ) (within : from ≤ length list) where
  lent_all : take (length list - from) (drop from list) ≡ drop from list
  lent_all = take_all (length list - from) (drop from list) (let l = length-drop from list in omega arith)

  lent_end : drop (length list - from) (drop from list) ≡ []
  lent_end = drop_of_length-le (drop from list) {i = length list - from} (let l = length-drop from list in omega arith)

  pub lent_long : length (take (length list - from) (drop from list)) ≡ length list - from
  lent_long = ap length lent_all ∙ length-drop from list

-- ---- from member to member

module _ (rules : List Rule) (table : List ℕ) (n k room : ℕ) where
  abbrev union : UCQ
  union = union_in table n

  -- the places before member `at` stand in the list, and there is room for the others
  pub record FilledSoFar (list : List ℕ) (at done : ℕ) : Type 0 where
    pub below : at < n
    pub places : List ExplainedStep
    pub way : (rest : List ExplainedStep) → WayBack rules union at rest → WayBack rules union k (places ++ rest)
    pub as_long : length list ≡ room
    pub bytes : take (40 * done) list ≡ flat_map place_bytes places
    pub left : ℕ
    pub behind : Behind union left at
    pub fits : 40 * done + 40 * left ≤ room

  pub fill_begins : (list : List ℕ) → k < n → RoomFor union k (length list) → length list ≡ room → FilledSoFar list k 0
  unfolding flat_map
  fill_begins list h r e = record {
    below = h;
    places = [];
    way = λ rest w. w;
    as_long = e;
    bytes = refl;
    left = r.places;
    behind = r.behind;
    fits = let f = r.fits in omega arith;
  }

  module _ (list : List ℕ) (at done : ℕ) (f : FilledSoFar list at done) where
    pub fill_below : at < n
    fill_below = f.below

    pub fill_long : length list ≡ room
    fill_long = f.as_long

    -- what is done lies in the list
    pub done_within : 40 * done ≤ length list
    done_within = let l = f.as_long in let g = f.fits in omega arith

    -- a member that is not 0 has a parent, and room for its place
    pub next_room : 0 < at → 40 * done + 40 ≤ length list
    next_room pos = let l = f.as_long in go f.left f.behind f.fits l
      where
        go : (c : ℕ) → Behind union c at → 40 * done + 40 * c ≤ room → length list ≡ room → 40 * done + 40 ≤ length list
        go zero b g l = absurd (let z : at ≡ 0 = b in omega arith)
        go (suc c) b g l = omega arith

    pub place_room : (part : ℕ) → 0 < at → part ≡ length list - 40 * done → place_size ≤ length (take part (drop (40 * done) list))
    place_room part pos e =
        let r = next_room pos in
        let l = lent_long list (40 * done) done_within in
        let d : length (take part (drop (40 * done) list)) ≡ length list - 40 * done
        = ap (λ x. length (take x (drop (40 * done) list))) e ∙ l in
        omega arith

    -- what the list is once the place of member `at` is put
    module _ (pos : 0 < at) (rows : Rows table n) (few : n ≤ 512) (p : Place) (place : PlaceOf rules union at (step_of_place p))
        (part parent : ℕ) (parent_is : parent ≡ step_parent (get_or table (16 * at) 0)) (part-is : part ≡ length list - 40 * done)
        (lent : List ℕ) (Lent-is : lent ≡ bytes_of_place p ++ drop place_size (take part (drop (40 * done) list))) where
      abbrev after : List ℕ
      after = take (40 * done) list ++ (lent ++ drop part (drop (40 * done) list))

      abbrev later : List ℕ
      later = drop place_size (take part (drop (40 * done) list)) ++ drop part (drop (40 * done) list)

      in_front : after ≡ (take (40 * done) list ++ bytes_of_place p) ++ later
      in_front =
          ap (λ l. take (40 * done) list ++ (l ++ drop part (drop (40 * done) list))) Lent-is
          ∙ ap (λ l. take (40 * done) list ++ l) (append_assoc (bytes_of_place p) _ _)
          ∙ sym (append_assoc (take (40 * done) list) (bytes_of_place p) later)

      front_long : length (take (40 * done) list ++ bytes_of_place p) ≡ 40 * (done + 1)
      front_long =
          let a = length-append (take (40 * done) list) (bytes_of_place p) in
          let b = length-take-le (40 * done) list done_within in
          let c : length (bytes_of_place p) ≡ 40 = place_long rules table n at rows few f.below p place in
          omega (arith, a, b, c)

      long_after : length after ≡ room
      long_after =
          let part-long : length (take part (drop (40 * done) list)) ≡ length list - 40 * done
          = ap (λ x. length (take x (drop (40 * done) list))) part-is ∙ lent_long list (40 * done) done_within in
          let a = length-append (take (40 * done) list) (lent ++ drop part (drop (40 * done) list)) in
          let b = length-take-le (40 * done) list done_within in
          let c = length-append lent (drop part (drop (40 * done) list)) in
          let d : drop part (drop (40 * done) list) ≡ []
          = ap (λ x. drop x (drop (40 * done) list)) part-is ∙ lent_end list (40 * done) done_within in
          let z : length (drop part (drop (40 * done) list)) ≡ 0 = ap length d in
          let e : length lent ≡ length (bytes_of_place p ++ drop place_size (take part (drop (40 * done) list))) = ap length Lent-is in
          let g = length-append (bytes_of_place p) (drop place_size (take part (drop (40 * done) list))) in
          let i = length-drop place_size (take part (drop (40 * done) list)) in
          let j : length (bytes_of_place p) ≡ 40 = place_long rules table n at rows few f.below p place in
          let r = next_room pos in
          let l = f.as_long in
          omega (arith, part-long, a, b, c, z, e, g, i, j, r, l)

      pub next_filled : FilledSoFar after parent (done + 1)
      unfolding flat_map
      next_filled = go f.left f.behind f.fits
        where
          same_parent : (step_of_place p).step.parent ≡ parent
          same_parent =
              ap (λ (s : Step). s.parent)
              (place.written ∙ ap (λ (o : Member). o.step) (at_unique union at place.there (union_at table n at f.below)))
              ∙ parent_there table at parent parent_is

          go : (c : ℕ) → Behind union c at → 40 * done + 40 * c ≤ room → FilledSoFar after parent (done + 1)
          go zero b g = absurd (let z : at ≡ 0 = b in omega arith)
          go (suc c) (l, o, there, b) g = record {
            below =
                let w : place.reached.step.parent < at = place.made.0 in
                let d : place.reached.step.parent ≡ parent = ap (λ (s : Step). s.parent) (sym place.written) ∙ same_parent in
                let e = f.below in omega arith;
            places = f.places ++ (step_of_place p ∷ []);
            way = λ rest w. subst (WayBack rules union k) (sym (append_assoc f.places (step_of_place p ∷ []) rest))
                (f.way (step_of_place p ∷ rest) (pos, place, subst (λ x. WayBack rules union x rest) (sym same_parent) w));
            as_long = long_after;
            bytes =
                ap (take (40 * (done + 1))) in_front
                ∙ take_at (take (40 * done) list ++ bytes_of_place p) later (40 * (done + 1)) front_long
                ∙ ap₂ ◌++◌ f.bytes (place_packed rules table n at rows few f.below p place)
                ∙ sym (flat_map_append place_bytes f.places (step_of_place p ∷ [])
                ∙ ap (λ l. flat_map place_bytes f.places ++ l) (append-nil (place_bytes (step_of_place p))));
            left = c;
            behind = subst (Behind union c)
                (ap (λ (x : Member). x.step.parent) (at_unique union at there (union_at table n at f.below))
                ∙ parent_there table at parent parent_is) b;
            fits = omega arith;
          }

    -- at member 0 all places stand in the list, and zeros come after them
    pub filled_back : at ≤ 0 → (part : ℕ) → part ≡ length list - 40 * done → (lent : List ℕ)
        → lent ≡ replicate (length (take part (drop (40 * done) list))) 0
        → FilledBack rules union k room (take (40 * done) list ++ (lent ++ drop part (drop (40 * done) list)))
    unfolding step_list
    filled_back h part e lent c = record {
      steps = f.places;
      way = subst (WayBack rules union k) (append-nil f.places) (f.way [] (let z : at ≡ 0 = omega arith in z));
      list_is =
          let part-long : length (take part (drop (40 * done) list)) ≡ length list - 40 * done
          = ap (λ x. length (take x (drop (40 * done) list))) e ∙ lent_long list (40 * done) done_within in
          let nothing : drop part (drop (40 * done) list) ≡ []
          = ap (λ x. drop x (drop (40 * done) list)) e ∙ lent_end list (40 * done) done_within in
          let used : length (flat_map place_bytes f.places) ≡ 40 * done
          = ap length (sym f.bytes) ∙ length-take-le (40 * done) list done_within in
          let zeros : length (take part (drop (40 * done) list)) ≡ room - length (flat_map place_bytes f.places)
          = (let l = f.as_long in omega arith) in
          ap₂ ◌++◌ f.bytes (ap (λ x. lent ++ x) nothing ∙ append-nil lent ∙ c ∙ ap (λ x. replicate x 0) zeros);
    }

-- ---- 20, or the steps

module _ (rules : List Rule) (union : UCQ) (k room behind : ℕ) (b : Behind union behind k) where
  pub room_for : 40 * behind ≤ room → RoomFor union k room
  room_for l = record { places = behind; behind = b; fits = l }

  pub tells_short : (r : Result ℕ Refusal) (list : List ℕ) → room < 40 * behind → (r ≡ Err StepsTooShort) × (list ≡ replicate room 0)
      → TellsFrom rules union k room (number_in r) (count_in r) list
  tells_short r list h (a, e) = rw a (record {
    short = λ n. (refl, behind, b, h, refl, e);
    enough = λ n. absurd (omega arith);
    filled = λ n. absurd (omega arith);
  })

  pub tells_filled : (list : List ℕ) → 40 * behind ≤ room → FilledBack rules union k room list → TellsFrom rules union k room 0 behind list
  tells_filled list h f = record {
    short = λ n. absurd (n refl);
    enough = λ n. room_for h;
    filled = λ n. (f, behind_unique union behind (length f.steps) k b (way_behind rules union k f.steps f.way));
  }

pub few_bytes : (behind k n : ℕ) → behind ≤ k → k < n → n ≤ 512 → 40 * behind < 65536
few_bytes behind k n a b c = omega arith

pub ruleset fill_laws = (
  rules,
  made_earlier,
  step_within,
  climb_less,
  fill_begins,
  fill_below,
  fill_long,
  done_within,
  next_room,
  place_room,
  next_filled,
  filled_back,
)

pub ruleset tell_laws = (rules, made_earlier, room_for, tells_short, tells_filled, few_bytes)
