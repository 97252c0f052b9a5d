-- What a state means: the marks, the UUIDs and their number are those of the events that have gone in. A record that goes in adds its event, and it goes in exactly when the events admit it.
use Prim.Native.Nat.{ℕ, ◌<◌, ◌≤◌, max}
use mathlib.Core.Path.{◌≡◌, refl, sym, ap, ap₂, ◌∙◌}
use mathlib.Core.Bool.{Bool, true, false, cond}
use mathlib.Core.Logic.{⊎_elim}
use mathlib.Core.List.{List, [], ◌∷◌, ◌++◌}
use native.Mathlib.Omega.{arith}
use lib.Dec.{eqb, ltb}
use borrow.Author.Tests.{eq-eqb, ne_eqb, lt-ltb, le-ltb, le-leb, ltb-true}
use lib.ListN.{length, take, length-append}
use Rattle.words.specs.Numbers.{Bytes}
use Rattle.replay.specs.Trace.{Event, event_of, fine}
use Rattle.replay.specs.Acceptance.{within, joined, distinct, admits}
use Rattle.replay.specs.State.{entry_at, cancel_of, reissue_of, entry_of, put, place_of, is_mark, mark_of, noted}
use Rattle.replay.specs.Replay.{goes_in, with_record}
use Rattle.words.proofs.Either.{lt_or_ge, eq_or_ne, alike_or_not}
use Rattle.replay.proofs.Tests.{no}
use Rattle.replay.proofs.Fine.{id_long, brings}
use Rattle.replay.proofs.Placed.{free}
use Rattle.replay.proofs.Tidy.{tidy_cancel, tidy_reissue, mark_range, larger_mark}
use Rattle.replay.proofs.Sound.{Sound, cancel_for, reissue_for, sound_new, own_cancel, own_reissue, other_cancel, other_reissue, there, taken_here}
use Rattle.replay.proofs.Marks.{mark_in, mark_more, mark_own, mark_other}
use Rattle.replay.proofs.Count.{taken, taken_most, taken_all, taken_again, taken_one, no_place_full}
use Rattle.replay.proofs.Gathered.{distinct_more, joined_old, joined_new, joined_own, joined_other}

-- u has come, as the marks have it
abbrev pub some : ℕ → Bool
some c = cond (eqb c 0) false true

pub record Means (s : List ℕ) (es : List Event) : Type 0 where
  pub sound : Sound s
  pub cancels : (u : List ℕ) → cancel_for s u ≡ mark_in 2 u es
  pub reissues : (u : List ℕ) → reissue_for s u ≡ mark_in 3 u es
  pub met : (u : List ℕ) → within u (distinct es) ≡ some (cancel_for s u)
  pub count : length (distinct es) ≡ taken s 4096

some_not : (c : ℕ) → (c ≡ 0 → ⊥) → some c ≡ true
some_not c n = rw (ne_eqb c 0 n)

pub some_zero : (c : ℕ) → c ≡ 0 → some c ≡ false
some_zero c e = rw (eq-eqb c 0 e)

module _ (s : List ℕ) (es : List Event) (r : List ℕ) (v : Means s es) (b : Bytes r) (f : fine r ≡ true) where
  abbrev w : List ℕ
  w = take 16 r

  abbrev old : List ℕ
  old = entry_at s (place_of s w)

  abbrev c : ℕ
  c = max (cancel_of old) (mark_of 2 (event_of r))

  abbrev d : ℕ
  d = max (reissue_of old) (mark_of 3 (event_of r))

  -- no place: the UUID is new, and all entries are taken
  full : 4096 ≤ place_of s w → admits es r ≡ false
  unfolding admits
  full h =
      let z : cancel_for s w ≡ 0 = ap (λ (t : Bool). cond t (cancel_of old) 0) (le-ltb (place_of s w) 4096 h) in
      let n : within w (distinct es) ≡ false = v.met w ∙ some_zero (cancel_for s w) z in
      let e : distinct (es ++ (event_of r ∷ [])) ≡ distinct es ++ (w ∷ []) = distinct_more es (event_of r) ∙ joined_new (distinct es) w n in
      let l : length (distinct (es ++ (event_of r ∷ []))) ≡ 4097 = ap length e ∙ length-append (distinct es) (w ∷ []) ∙ omega (arith, v.count ∙ taken_all s 4096 (no_place_full s w h)) in
      rw (f, l)

  module _ (p : place_of s w < 4096) where
    old_cancel : cancel_of old ≡ cancel_for s w
    old_cancel = rw (lt-ltb (place_of s w) 4096 p)

    old_reissue : reissue_of old ≡ reissue_for s w
    old_reissue = rw (lt-ltb (place_of s w) 4096 p)

    c₁ : is_mark c ≡ true
    c₁ = larger_mark (cancel_of old) (mark_of 2 (event_of r)) (tidy_cancel old (v.sound.state.each (place_of s w) p)) (brings r b f 2)

    d₁ : is_mark d ≡ true
    d₁ = larger_mark (reissue_of old) (mark_of 3 (event_of r)) (tidy_reissue old (v.sound.state.each (place_of s w) p)) (brings r b f 3)

    abbrev new : List ℕ
    new = put s (place_of s w) (entry_of w c d)

    marks_cancel : (u : List ℕ) → cancel_for new u ≡ mark_in 2 u (es ++ (event_of r ∷ []))
    marks_cancel u =
        ⊎_elim
        (λ e. ap (cancel_for new) (sym e) ∙ own_cancel s v.sound w c d (id_long r f) p c₁ d₁
        ∙ ap₂ max (old_cancel ∙ v.cancels w ∙ ap (λ (x : List ℕ). mark_in 2 x es) e) (sym (mark_own 2 u (event_of r) e)) ∙ sym (mark_more 2 u es (event_of r)))
        (λ n. other_cancel s v.sound w c d (id_long r f) p c₁ d₁ u n ∙ v.cancels u
        ∙ omega (arith, mark_more 2 u es (event_of r), mark_other 2 u (event_of r) n))
        (alike_or_not w u)

    marks_reissue : (u : List ℕ) → reissue_for new u ≡ mark_in 3 u (es ++ (event_of r ∷ []))
    marks_reissue u =
        ⊎_elim
        (λ e. ap (reissue_for new) (sym e) ∙ own_reissue s v.sound w c d (id_long r f) p c₁ d₁
        ∙ ap₂ max (old_reissue ∙ v.reissues w ∙ ap (λ (x : List ℕ). mark_in 3 x es) e) (sym (mark_own 3 u (event_of r) e)) ∙ sym (mark_more 3 u es (event_of r)))
        (λ n. other_reissue s v.sound w c d (id_long r f) p c₁ d₁ u n ∙ v.reissues u
        ∙ omega (arith, mark_more 3 u es (event_of r), mark_other 3 u (event_of r) n))
        (alike_or_not w u)

    met_new : (u : List ℕ) → within u (distinct (es ++ (event_of r ∷ []))) ≡ some (cancel_for new u)
    met_new u =
        ⊎_elim
        (λ e. ap (within u) (distinct_more es (event_of r)) ∙ ap (λ (x : List ℕ). within x (joined (distinct es) w)) (sym e) ∙ joined_own (distinct es) w
        ∙ sym (some_not (cancel_for new u) (λ z. omega (arith, sym (ap (cancel_for new) (sym e) ∙ own_cancel s v.sound w c d (id_long r f) p c₁ d₁) ∙ z, mark_range c c₁))))
        (λ n. ap (within u) (distinct_more es (event_of r)) ∙ joined_other (distinct es) w u n ∙ v.met u ∙ ap some (sym (other_cancel s v.sound w c d (id_long r f) p c₁ d₁ u n)))
        (alike_or_not w u)

    apart : (k : ℕ) → (k ≡ place_of s w → ⊥) → entry_at new k ≡ entry_at s k
    apart = there s v.sound w c d (id_long r f) p c₁ d₁

    busy : free new (place_of s w) → ⊥
    busy = taken_here s v.sound w c d (id_long r f) p c₁ d₁

    count_new : length (distinct (es ++ (event_of r ∷ []))) ≡ taken new 4096
    count_new = ⊎_elim one_more as_many (eq_or_ne (cancel_of old) 0)
      where
        one_more : cancel_of old ≡ 0 → length (distinct (es ++ (event_of r ∷ []))) ≡ taken new 4096
        one_more z =
            let n : within w (distinct es) ≡ false = v.met w ∙ some_zero (cancel_for s w) (sym old_cancel ∙ z) in
            ap length (distinct_more es (event_of r) ∙ joined_new (distinct es) w n) ∙ length-append (distinct es) (w ∷ [])
            ∙ omega (arith, v.count, taken_one s new (place_of s w) apart busy z 4096 p)

        as_many : (cancel_of old ≡ 0 → ⊥) → length (distinct (es ++ (event_of r ∷ []))) ≡ taken new 4096
        as_many z =
            let y : within w (distinct es) ≡ true = v.met w ∙ some_not (cancel_for s w) (λ q. z (old_cancel ∙ q)) in
            ap length (distinct_more es (event_of r) ∙ joined_old (distinct es) w y) ∙ v.count ∙ sym (taken_again s new (place_of s w) apart busy z 4096)

    means_new : Means new (es ++ (event_of r ∷ []))
    means_new = record { sound = sound_new s v.sound w c d (id_long r f) p c₁ d₁; cancels = marks_cancel; reissues = marks_reissue; met = met_new; count = count_new }

    roomy : admits es r ≡ true
    unfolding admits
    roomy = rw (f, le-leb (length (distinct (es ++ (event_of r ∷ [])))) 4096 (omega (arith, count_new, taken_most new 4096)))

refused_alike : (es : List Event) (r : List ℕ) → fine r ≡ false → admits es r ≡ false
unfolding admits
refused_alike es r f = rw f

module _ (s : List ℕ) (es : List Event) (r : List ℕ) (v : Means s es) (b : Bytes r) where
  -- a record goes in exactly when the events admit it
  pub goes_admits : goes_in s r ≡ admits es r
  goes_admits = by (fine r) refl
    where
      by : (f : Bool) → fine r ≡ f → cond f (ltb (place_of s (take 16 r)) 4096) false ≡ admits es r
      by true f =
          ⊎_elim
          (λ p. lt-ltb (place_of s (take 16 r)) 4096 p ∙ sym (roomy s es r v b f p))
          (λ p. le-ltb (place_of s (take 16 r)) 4096 p ∙ sym (full s es r v b f p))
          (lt_or_ge (place_of s (take 16 r)) 4096)
      by false f = sym (refused_alike es r f)

  pub means_next : goes_in s r ≡ true → Means (with_record s r) (es ++ (event_of r ∷ []))
  unfolding with_record
  means_next g = by (fine r) refl g
    where
      by : (f : Bool) → fine r ≡ f → cond f (ltb (place_of s (take 16 r)) 4096) false ≡ true → Means (put s (place_of s (take 16 r)) (noted (entry_at s (place_of s (take 16 r))) r)) (es ++ (event_of r ∷ []))
      by true f g = means_new s es r v b f (ltb-true (place_of s (take 16 r)) 4096 g)
      by false f g = no (sym g)

-- the UUIDs that a state means are few
pub few : (s : List ℕ) (es : List Event) → Means s es → length (distinct es) ≤ 4096
few s es v = omega (arith, v.count, taken_most s 4096)
