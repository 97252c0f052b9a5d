-- How a reading ends: at the first early test that fails, at the check, at the body, or accepted; how a writing ends; and what each end says. By the
-- tables of tests, and of a reading then by the tests 8 and 9.
use Prim.Native.Nat.{ℕ, ◌-◌, ◌/◌, ◌≤◌}
use mathlib.Core.Path.{◌≡◌, refl, sym, ap, ◌∙◌, subst}
use mathlib.Core.Logic.{◌↔◌}
use mathlib.Core.Bool.{Bool, true, false, ◌&&◌, ◌||◌, false≢true, true≢false}
use mathlib.Core.List.{List, [], ◌∷◌, map}
use native.Mathlib.Omega.{arith}
use native.Mathlib.Nat.{sub-zero}
use lib.Dec.{eqb, ltb}
use lib.ListN.{length}
use borrow.Author.Tests.{ltb-false, le-ltb, eq-eqb, eqb-true, eqb-false}
use Rattle.words.specs.Numbers.{number_low}
use Rattle.words.specs.Slices.{zeros}
use Rattle.chain.specs.Decryption.{Decryption}
use Rattle.file.specs.Layout.{Parts, split, differ}
use Rattle.file.specs.Refusals.{Test, First, here, later}
use Rattle.file.proofs.Tables.{between, Decided, passes, stops, decide, first_stops, first_between}
use Rattle.file.specs.Edition.{Format, Edition, Stretched}
use Rattle.file.specs.Reading.{Report, refused, accepted, workspace_of, early_tests, key_k, key_l, body_of, checked, reading_of}
use Rattle.file.specs.Writing.{Writing, unwritten, early_write_tests, write_tests, written, writing_of}
use Rattle.file.proofs.Passed.{Late, Early, as_early, early, passed_early, refused_first, Matches, Whole, late_passed, is_accepted, is_nine, is_eight}

abbrev num : Report → ℕ
num t = t.number

-- a test with number k fails
abbrev failing : ℕ → List Test → Bool
failing k [] = false
failing k (t ∷ ts) = (eqb t.number k && t.fails) || failing k ts

first_failing : (k : ℕ) (ts : List Test) → First k ts → failing k ts ≡ true
first_failing k ts (here {t = t} {ts = us} n e) = rw (eq-eqb t.number k n, e)
first_failing k ts (later {t = t} {ts = us} e f) = or_true (eqb t.number k && t.fails) (failing k us) (first_failing k us f)
  where
    or_true : (a b : Bool) → b ≡ true → (a || b) ≡ true
    or_true true b h = refl
    or_true false b h = h

module _ (E : Edition) (file pass : List ℕ) (ceiling room : ℕ) where
  abbrev p : Parts
  p = split file

  abbrev n : ℕ
  n = (length file - 200) / 16

  abbrev s : Stretched
  s = E.format.stretched pass p.salt (number_low p.iter)

  abbrev o : Decryption
  o = body_of E.format p s.key n

  abbrev r : Report
  r = reading_of E file pass ceiling room

  abbrev Passing : Type 0
  Passing = Early E p n file pass ceiling room

  pub data Ends : Type 0 where
    stopped : (k : ℕ) → 1 ≤ k → k ≤ 7 → First k (early_tests E.format p n file pass ceiling room) → r ≡ refused k 0 0 → Ends
    unmatched : Passing → (Matches p s → ⊥) → r ≡ refused 8 s.count 0 → Ends
    broken : Passing → Matches p s → r ≡ refused 9 s.count o.count → Ends
    whole : Passing → Matches p s → Whole E p s n → r ≡ accepted E (key_k E.format p s.key) (key_l E.format p s.key) s.count o.count o.done → Ends

  pub ends : Ends
  unfolding reading_of early_tests
  ends = go (decide (λ (k : ℕ). refused k 0 0) (checked E p s n) (early_tests E.format p n file pass ceiling room))
    where
      judge : Passing → Matches p s → (b : Bool) → eqb (checked E p s n).number 0 ≡ b → Ends
      judge e m true h = let w = late_passed E p s n (eqb-true _ _ h) in whole e m w.1 (passed_early E file pass ceiling room e ∙ is_accepted E p s n m w.1)
      judge e m false h = broken e m (passed_early E file pass ceiling room e ∙ is_nine E p s n m (eqb-false _ _ h))

      check : Passing → (b : Bool) → differ s.check p.check ≡ b → Ends
      check e true h = unmatched e (λ m. true≢false (sym h ∙ m.t8))
          (passed_early E file pass ceiling room e ∙ is_eight E p s n h)
      check e false h = judge e (record { t8 = h }) (eqb (checked E p s n).number 0) refl

      go : Decided (λ (k : ℕ). refused k 0 0) (early_tests E.format p n file pass ceiling room) (checked E p s n) → Ends
      go (passes t e) = check (as_early E file pass ceiling room t) (differ s.check p.check) refl
      go (stops k f e) =
          let b = first_between 1 7 k {ts = early_tests E.format p n file pass ceiling room} refl f in
          stopped k b.0 b.1 f e

  -- the numbers of the early tests, in their order
  pub early_numbers : map (λ (t : Test). t.number) (early_tests E.format p n file pass ceiling room) ≡ 1 ∷ 2 ∷ 3 ∷ 4 ∷ 5 ∷ 6 ∷ 7 ∷ []
  unfolding early_tests
  early_numbers = refl

  -- a number of 1 to 7 is that of the first test that fails
  pub first_fails : (k : ℕ) → 1 ≤ k → k ≤ 7 → (r.number ≡ k) ↔ First k (early_tests E.format p n file pass ceiling room)
  unfolding refused accepted
  first_fails k a b = (λ h. go h ends, λ f. ap num (refused_first E file pass ceiling room k f))
    where
      go : r.number ≡ k → Ends → First k (early_tests E.format p n file pass ceiling room)
      go h (stopped j c d f q) = subst (λ (m : ℕ). First m (early_tests E.format p n file pass ceiling room)) (sym (ap num q) ∙ h) f
      go h (unmatched e m q) = absurd (let z : 8 ≡ k = sym (ap num q) ∙ h in omega arith)
      go h (broken e m q) = absurd (let z : 9 ≡ k = sym (ap num q) ∙ h in omega arith)
      go h (whole e m w q) = absurd (let z : 0 ≡ k = sym (ap num q) ∙ h in omega arith)

  -- a ceiling that ITER does not pass never gives 6
  pub under_ceiling : number_low p.iter ≤ ceiling → r.number ≡ 6 → ⊥
  unfolding early_tests
  under_ceiling h e =
      not_both (ltb ceiling (number_low p.iter)) (first_failing 6 (early_tests E.format p n file pass ceiling room) ((first_fails 6 (omega arith) (omega arith)).0 e))
      (le-ltb ceiling (number_low p.iter) h)
    where
      not_both : (b : Bool) → (b || false) ≡ true → b ≡ false → ⊥
      not_both true f g = true≢false g
      not_both false f g = false≢true f

  -- under a ceiling below the floor nothing is accepted
  pub floor_under : r.number ≡ 0 → E.format.floor ≤ ceiling
  floor_under h =
      let e = early E file pass ceiling room (λ k a b q. omega arith) in
      let a = ltb-false (number_low p.iter) E.format.floor e.t5 in
      let b = ltb-false ceiling (number_low p.iter) e.t6 in
      omega arith

  -- no number but 0 to 9, and a refusal says nothing but its number and the two counts
  pub nine_most : r.number ≤ 9
  unfolding refused accepted
  nine_most = go ends
    where
      go : Ends → r.number ≤ 9
      go (stopped k a b f q) = let z : r.number ≡ k = ap num q in omega arith
      go (unmatched e m q) = let z : r.number ≡ 8 = ap num q in omega arith
      go (broken e m q) = let z : r.number ≡ 9 = ap num q in omega arith
      go (whole e m w q) = let z : r.number ≡ 0 = ap num q in omega arith

  pub bare : (r.number ≡ 0 → ⊥) → r ≡ refused r.number r.compressions r.blocks
  unfolding refused accepted
  bare h = go ends
    where
      so : (t : Report) (k c b : ℕ) → t ≡ refused k c b → t ≡ refused t.number t.compressions t.blocks
      so t k c b q = q ∙ sym (ap (λ (u : Report). refused u.number u.compressions u.blocks) q)

      go : Ends → r ≡ refused r.number r.compressions r.blocks
      go (stopped k a b f q) = so r k 0 0 q
      go (unmatched e m q) = so r 8 s.count 0 q
      go (broken e m q) = so r 9 s.count o.count q
      go (whole e m w q) = absurd (h (ap num q))

  -- refused: every byte of the workspace is zero
  pub zeros_left : (r.number ≡ 0 → ⊥) → workspace_of room r ≡ zeros room
  unfolding workspace_of refused
  zeros_left h = ap (workspace_of room) (bare h) ∙ rw (sub-zero room)

  -- accepted: the counts of header fields and records are those of the body
  pub fields_counted : r.number ≡ 0 → (r.headers ≡ E.headers r.body) × (r.records ≡ E.records r.body)
  unfolding refused accepted
  fields_counted h = go ends
    where
      go : Ends → (r.headers ≡ E.headers r.body) × (r.records ≡ E.records r.body)
      go (stopped k a b f q) = absurd (let z : r.number ≡ k = ap num q in omega arith)
      go (unmatched e m q) = absurd (let z : r.number ≡ 8 = ap num q in omega arith)
      go (broken e m q) = absurd (let z : r.number ≡ 9 = ap num q in omega arith)
      go (whole e m w q) = (
        ap (λ (t : Report). t.headers) q ∙ sym (ap (λ (t : Report). E.headers t.body) q),
        ap (λ (t : Report). t.records) q ∙ sym (ap (λ (t : Report). E.records t.body) q),
      )

  -- 1 to 7: no work was done
  pub early_counts : 1 ≤ r.number → r.number ≤ 7 → (r.compressions ≡ 0) × (r.blocks ≡ 0)
  unfolding refused accepted
  early_counts a b = go ends
    where
      go : Ends → (r.compressions ≡ 0) × (r.blocks ≡ 0)
      go (stopped k c d f q) = (ap (λ (t : Report). t.compressions) q, ap (λ (t : Report). t.blocks) q)
      go (unmatched e m q) = absurd (let z : r.number ≡ 8 = ap num q in omega arith)
      go (broken e m q) = absurd (let z : r.number ≡ 9 = ap num q in omega arith)
      go (whole e m w q) = absurd (let z : r.number ≡ 0 = ap num q in omega arith)

  -- 8: no block was decrypted
  pub eight_blocks : r.number ≡ 8 → r.blocks ≡ 0
  unfolding refused accepted
  eight_blocks h = go ends
    where
      go : Ends → r.blocks ≡ 0
      go (stopped k a b f q) = ap (λ (t : Report). t.blocks) q
      go (unmatched e m q) = ap (λ (t : Report). t.blocks) q
      go (broken e m q) = absurd (let z : r.number ≡ 9 = ap num q in omega arith)
      go (whole e m w q) = absurd (let z : r.number ≡ 0 = ap num q in omega arith)

  -- past 1 to 7: 8 exactly where the passphrase does not match, and the counts are those of the last states
  module _ (l : Late r.number) where
    pub eight_exactly : (r.number ≡ 8) ↔ (Matches p s → ⊥)
    unfolding refused accepted
    eight_exactly = (λ h. forth h ends, λ h. back h ends)
      where
        forth : r.number ≡ 8 → Ends → Matches p s → ⊥
        forth h (stopped k a b f q) m = l k a b (ap num q)
        forth h (unmatched e n q) m = n m
        forth h (broken e n q) m = absurd (let z : r.number ≡ 9 = ap num q in omega arith)
        forth h (whole e n w q) m = absurd (let z : r.number ≡ 0 = ap num q in omega arith)

        back : (Matches p s → ⊥) → Ends → r.number ≡ 8
        back h (stopped k a b f q) = absurd (l k a b (ap num q))
        back h (unmatched e m q) = ap num q
        back h (broken e m q) = absurd (h m)
        back h (whole e m w q) = absurd (h m)

    -- past that, 9 exactly where the body is not whole
    pub nine_exactly : Matches p s → (r.number ≡ 9) ↔ (Whole E p s n → ⊥)
    unfolding refused accepted
    nine_exactly m = (
      λ h w. absurd (let z : r.number ≡ 0 = ap num (passed_early E file pass ceiling room (early E file pass ceiling room l) ∙ is_accepted E p s n m w) in omega arith),
      λ h. back h ends,
    )
      where
        back : (Whole E p s n → ⊥) → Ends → r.number ≡ 9
        back h (stopped k a b f q) = absurd (l k a b (ap num q))
        back h (unmatched e n q) = absurd (n m)
        back h (broken e m q) = ap num q
        back h (whole e m w q) = absurd (h w)

    pub compressions_held : r.compressions ≡ s.count
    unfolding refused accepted
    compressions_held = go ends
      where
        go : Ends → r.compressions ≡ s.count
        go (stopped k a b f q) = absurd (l k a b (ap num q))
        go (unmatched e m q) = ap (λ (t : Report). t.compressions) q
        go (broken e m q) = ap (λ (t : Report). t.compressions) q
        go (whole e m w q) = ap (λ (t : Report). t.compressions) q

    pub blocks_held : (r.number ≡ 8 → ⊥) → r.blocks ≡ o.count
    unfolding refused accepted
    blocks_held h = go ends
      where
        go : Ends → r.blocks ≡ o.count
        go (stopped k a b f q) = absurd (l k a b (ap num q))
        go (unmatched e m q) = absurd (h (ap num q))
        go (broken e m q) = ap (λ (t : Report). t.blocks) q
        go (whole e m w q) = ap (λ (t : Report). t.blocks) q

-- A writing: a refusal's number is that of the first test that fails, and it leaves zeros.
pub write_numbers : (F : Format) (good : Bool) (pass : List ℕ) (iter : ℕ) (K iv body : List ℕ) (room : ℕ)
    → map (λ (t : Test). t.number) (write_tests F good pass iter K iv body room) ≡ 1 ∷ 2 ∷ 3 ∷ 5 ∷ 9 ∷ 10 ∷ []
unfolding write_tests early_write_tests
write_numbers F good pass iter K iv body room = refl

module _ (E : Edition) (pass salt : List ℕ) (iter : ℕ) (K L iv body : List ℕ) (room : ℕ) where
  abbrev tests : List Test
  tests = write_tests E.format (E.is_well_formed body) pass iter K iv body room

  abbrev w : Writing
  w = writing_of E pass salt iter K L iv body room

  pub write_between : between 1 10 tests ≡ true
  unfolding write_tests early_write_tests
  write_between = refl

  write_first : (k : ℕ) → First k tests → w ≡ unwritten k room
  unfolding writing_of
  write_first k f = first_stops (λ (k : ℕ). unwritten k room) (written E pass salt iter K L iv body room) k tests f

  pub write_told : (w.number ≡ 0 → ⊥) → First w.number tests × (w.output ≡ zeros room)
  unfolding writing_of written unwritten
  write_told h = go (decide (λ (k : ℕ). unwritten k room) (written E pass salt iter K L iv body room) tests)
    where
      go : Decided (λ (k : ℕ). unwritten k room) tests (written E pass salt iter K L iv body room) → First w.number tests × (w.output ≡ zeros room)
      go (passes t e) = absurd (h (ap (λ (x : Writing). x.number) e))
      go (stops k f e) =
          let z : w.number ≡ k = ap (λ (x : Writing). x.number) e in
          (subst (λ (m : ℕ). First m tests) (sym z) f, ap (λ (x : Writing). x.output) e)

  pub write_fails : (k : ℕ) → 1 ≤ k → (w.number ≡ k) ↔ First k tests
  unfolding unwritten
  write_fails k a = (
    λ e. subst (λ (m : ℕ). First m tests) e (write_told (λ z. omega arith)).0,
    λ f. ap (λ (x : Writing). x.number) (write_first k f),
  )
