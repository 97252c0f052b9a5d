-- The order of the refusals: what a reading that is refused by none of 1 to 7 has passed, and what 8 and 9 then decide. By the table of tests.
use Prim.Native.Nat.{ℕ, ◌+◌, ◌-◌, ◌/◌, ◌≤◌}
use mathlib.Core.Path.{◌≡◌, refl, ap, ◌∙◌}
use mathlib.Core.Bool.{Bool, true, false, cond, not}
use mathlib.Core.List.{List}
use native.Mathlib.Omega.{arith}
use lib.Dec.{ltb, eqb}
use lib.ListN.{length, drop}
use Rattle.words.specs.Numbers.{number_low}
use Rattle.chain.specs.Decryption.{Decryption}
use Rattle.file.specs.Layout.{Parts, split, tag, differ, first_marker}
use Rattle.file.specs.Refusals.{First}
use Rattle.file.proofs.Tables.{Pass, Decided, passes, stops, decide, all_pass, first_stops, first_between}
use Rattle.file.specs.Edition.{Edition, Stretched}
use Rattle.file.specs.Reading.{Report, refused, accepted, bad_length, early_tests, key_k, key_l, body_of, body_tests, settled, checked, reading_of}

-- a number that is none of 1 to 7
abbrev pub Late : ℕ → Type 0
Late n = (k : ℕ) → 1 ≤ k → k ≤ 7 → n ≡ k → ⊥

-- the tests 1 to 7 are passed, where n blocks of body are expected
pub record Early (E : Edition) (p : Parts) (n : ℕ) (file pass : List ℕ) (ceiling room : ℕ) : Type 0 where
  pub t1 : bad_length (length file) ≡ false
  pub t2 : ltb 1024 (length pass) ≡ false
  pub t3 : ltb room (length file - 200) ≡ false
  pub t4 : differ p.tag tag ≡ false
  pub t5 : ltb (number_low p.iter) E.format.floor ≡ false
  pub t6 : ltb ceiling (number_low p.iter) ≡ false
  pub t7 : not (eqb (first_marker (n + 3) (drop 152 file)) n) ≡ false

module _ (E : Edition) (file pass : List ℕ) (ceiling room : ℕ) where
  abbrev p : Parts
  p = split file

  abbrev n : ℕ
  n = (length file - 200) / 16

  abbrev s : Stretched
  s = E.format.stretched pass p.salt (number_low p.iter)

  pub passed_early : Early E p n file pass ceiling room → reading_of E file pass ceiling room ≡ checked E p s n
  unfolding reading_of early_tests
  passed_early e =
      all_pass (λ (k : ℕ). refused k 0 0) _ (early_tests E.format p n file pass ceiling room)
      (e.t1, (e.t2, (e.t3, (e.t4, (e.t5, (e.t6, (e.t7, tt)))))))

  pub as_early : Pass (early_tests E.format p n file pass ceiling room) → Early E p n file pass ceiling room
  unfolding early_tests
  as_early t = record { t1 = t.0; t2 = t.1.0; t3 = t.1.1.0; t4 = t.1.1.1.0; t5 = t.1.1.1.1.0; t6 = t.1.1.1.1.1.0; t7 = t.1.1.1.1.1.1.0 }

  pub early : Late (reading_of E file pass ceiling room).number → Early E p n file pass ceiling room
  unfolding reading_of early_tests refused
  early h = go (decide (λ (k : ℕ). refused k 0 0) (checked E p s n) (early_tests E.format p n file pass ceiling room))
    where
      go : Decided (λ (k : ℕ). refused k 0 0) (early_tests E.format p n file pass ceiling room) (checked E p s n) → Early E p n file pass ceiling room
      go (passes t e) = as_early t
      go (stops k f e) =
          let b = first_between 1 7 k {ts = early_tests E.format p n file pass ceiling room} refl f in
          absurd (h k b.0 b.1 (ap (λ (r : Report). r.number) e))

  -- a number of 1 to 7 is that of the first test that fails
  pub refused_first : (k : ℕ) → First k (early_tests E.format p n file pass ceiling room) → reading_of E file pass ceiling room ≡ refused k 0 0
  unfolding reading_of
  refused_first k f = first_stops (λ (k : ℕ). refused k 0 0) (checked E p s n) k (early_tests E.format p n file pass ceiling room) f

-- the tests 8 and 9
pub record Matches (p : Parts) (s : Stretched) : Type 0 where
  pub t8 : differ s.check p.check ≡ false

pub record Whole (E : Edition) (p : Parts) (s : Stretched) (n : ℕ) : Type 0 where
  pub fine : not (E.is_well_formed (body_of E.format p s.key n).done) ≡ false
  pub mac : differ (E.format.hmac (key_l E.format p s.key) (E.covered (body_of E.format p s.key n).done)) p.mac ≡ false

module _ (E : Edition) (p : Parts) (s : Stretched) (n : ℕ) where
  abbrev o : Decryption
  o = body_of E.format p s.key n

  abbrev bad : Bool
  bad = not (E.is_well_formed o.done)

  abbrev off : Bool
  off = differ (E.format.hmac (key_l E.format p s.key) (E.covered o.done)) p.mac

  abbrev yes : Report
  yes = accepted E (key_k E.format p s.key) (key_l E.format p s.key) s.count o.count o.done

  not_matched : (b : Bool) (x : Report) (c : ℕ) → (cond b (refused 8 c 0) x).number ≡ 0 → (b ≡ false) × (x.number ≡ 0)
  unfolding refused
  not_matched true x c h = absurd (omega arith)
  not_matched false x c h = (refl, h)

  not_whole : (a b : Bool) (x : Report) (c k : ℕ) → (cond a (refused 9 c k) (cond b (refused 9 c k) x)).number ≡ 0 → (a ≡ false) × (b ≡ false)
  unfolding refused
  not_whole true b x c k h = absurd (omega arith)
  not_whole false true x c k h = absurd (omega arith)
  not_whole false false x c k h = (refl, refl)

  pub late_passed : (checked E p s n).number ≡ 0 → Matches p s × Whole E p s n
  unfolding checked settled body_tests
  late_passed h =
      let a = not_matched (differ s.check p.check) (cond bad (refused 9 s.count o.count) (cond off (refused 9 s.count o.count) yes)) s.count h in
      let b = not_whole bad off yes s.count o.count a.1 in
      (record { t8 = a.0 }, record { fine = b.0; mac = b.1 })

  pub is_accepted : Matches p s → Whole E p s n → checked E p s n ≡ yes
  unfolding checked settled body_tests
  is_accepted m w = rw (m.t8, w.fine, w.mac)

  -- refused after the keys matched
  refused_nine : (a b : Bool) (x : Report) (c k : ℕ) → x.number ≡ 0 → ((cond a (refused 9 c k) (cond b (refused 9 c k) x)).number ≡ 0 → ⊥)
      → cond a (refused 9 c k) (cond b (refused 9 c k) x) ≡ refused 9 c k
  refused_nine true b x c k e h = refl
  refused_nine false true x c k e h = refl
  refused_nine false false x c k e h = absurd (h e)

  pub is_nine : Matches p s → ((checked E p s n).number ≡ 0 → ⊥) → checked E p s n ≡ refused 9 s.count o.count
  unfolding checked settled body_tests accepted
  is_nine m h =
      ap (λ (b : Bool). cond b (refused 8 s.count 0) (cond bad (refused 9 s.count o.count) (cond off (refused 9 s.count o.count) yes))) m.t8
      ∙ refused_nine bad off yes s.count o.count refl (λ z. h (rw m.t8 z))

  pub is_eight : differ s.check p.check ≡ true → checked E p s n ≡ refused 8 s.count 0
  unfolding checked
  is_eight h = rw h
