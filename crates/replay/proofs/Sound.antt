-- What a sound state says of each UUID, and that one more record changes it for its own UUID alone: the entry written was free or that UUID's, so that no other look-up ends elsewhere.
use Prim.Native.Nat.{ℕ, ◌^◌, ◌<◌}
use mathlib.Core.Path.{◌≡◌, refl, sym, ap, ◌∙◌}
use mathlib.Core.Bool.{Bool, true, false, cond}
use mathlib.Core.Logic.{◌⊎◌, ⊎_elim, inl, inr}
use mathlib.Core.List.{List}
use native.Mathlib.Omega.{arith}
use lib.Dec.{eqb, ltb}
use borrow.Author.Tests.{eqb-true, eqb-false, lt-ltb, le-ltb}
use lib.ListN.{length}
use Rattle.words.specs.Slices.{same}
use Rattle.words.proofs.SliceLaws.{same_refl}
use Rattle.replay.specs.State.{entry_at, id_of, cancel_of, reissue_of, entry_of, put, slot, stops, place_of, is_mark}
use Rattle.words.proofs.Either.{lt_or_ge, eq_or_ne}
use Rattle.replay.proofs.Tidy.{Tidy, tidy_blank, mark_range}
use Rattle.replay.proofs.Lookup.{place_ends, stop_cases, stop_taken}
use Rattle.replay.proofs.Placed as placed
use Rattle.replay.proofs.Placed.{free}

-- a state, of which every taken entry is the one that its UUID's look-up finds
pub record Sound (s : List ℕ) : Type 0 where
  pub state : Tidy s
  pub own : (k : ℕ) → k < 4096 → (free s k → ⊥) → place_of s (id_of (entry_at s k)) ≡ k

-- the marks of u
abbrev pub found : List ℕ → (List ℕ → ℕ) → ℕ → ℕ
found s f k = cond (ltb k 4096) (f (entry_at s k)) 0

abbrev pub cancel_for : List ℕ → List ℕ → ℕ
cancel_for s u = found s cancel_of (place_of s u)

abbrev pub reissue_for : List ℕ → List ℕ → ℕ
reissue_for s u = found s reissue_of (place_of s u)

-- u has an entry, the k-th
pub record Has (s u : List ℕ) (k : ℕ) : Type 0 where
  pub low : k < 4096
  pub taken : free s k → ⊥
  pub id : id_of (entry_at s k) ≡ u

module _ (s : List ℕ) (v : Sound s) (u : List ℕ) where
  has_place : (k : ℕ) → Has s u k → place_of s u ≡ k
  has_place k h = ap (place_of s) (sym h.id) ∙ v.own k h.low h.taken

  pub has_marks : (k : ℕ) (f : List ℕ → ℕ) → Has s u k → found s f (place_of s u) ≡ f (entry_at s k)
  has_marks k f h = ap (found s f) (has_place k h) ∙ rw (lt-ltb k 4096 h.low)

  none_marks : ((k : ℕ) → Has s u k → ⊥) → (f : List ℕ → ℕ) → ((k : ℕ) → k < 4096 → free s k → f (entry_at s k) ≡ 0) → found s f (place_of s u) ≡ 0
  none_marks n f z = ⊎_elim inside (λ g. rw (le-ltb (place_of s u) 4096 g)) (lt_or_ge (place_of s u) 4096)
    where
      inside : place_of s u < 4096 → found s f (place_of s u) ≡ 0
      inside g =
          let x = place_ends s u g in
          let k = slot u x.0 in
          let l : k < 4096 = omega arith in
          let r : f (entry_at s k) ≡ 0 = by (eqb (cancel_of (entry_at s k)) 0) refl in
          ap (found s f) x.2 ∙ rw (lt-ltb k 4096 l) r
        where
          by : (b : Bool) → eqb (cancel_of (entry_at s (slot u (place_ends s u g).0))) 0 ≡ b → f (entry_at s (slot u (place_ends s u g).0)) ≡ 0
          by true e = z (slot u (place_ends s u g).0) (omega arith) (eqb-true _ 0 e)
          by false e =
              let t = eqb-false _ 0 e in
              absurd (n (slot u (place_ends s u g).0) (record { low = omega arith; taken = t; id = ⊎_elim (λ q. absurd (t q)) (λ q. q) (stop_cases s u (slot u (place_ends s u g).0) (place_ends s u g).1.here) }))

  pub none_cancel : ((k : ℕ) → Has s u k → ⊥) → cancel_for s u ≡ 0
  none_cancel n = none_marks n cancel_of (λ k l z. z)

  pub none_reissue : ((k : ℕ) → Has s u k → ⊥) → reissue_for s u ≡ 0
  none_reissue n = none_marks n reissue_of (λ k l z. tidy_blank (entry_at s k) (v.state.each k l) z)

  -- u has an entry or none
  pub has_or_none : ((k : ℕ) × Has s u k) ⊎ ((k : ℕ) → Has s u k → ⊥)
  has_or_none = ⊎_elim inside (λ g. inr (λ k h. absurd (omega (arith, has_place k h, h.low)))) (lt_or_ge (place_of s u) 4096)
    where
      inside : place_of s u < 4096 → ((k : ℕ) × Has s u k) ⊎ ((k : ℕ) → Has s u k → ⊥)
      inside g = ⊎_elim empty full (eq_or_ne (cancel_of (entry_at s (place_of s u))) 0)
        where
          empty : free s (place_of s u) → ((k : ℕ) × Has s u k) ⊎ ((k : ℕ) → Has s u k → ⊥)
          empty z = inr (λ k h. h.taken (ap (λ (j : ℕ). cancel_of (entry_at s j)) (sym (has_place k h)) ∙ z))

          full : (free s (place_of s u) → ⊥) → ((k : ℕ) × Has s u k) ⊎ ((k : ℕ) → Has s u k → ⊥)
          full n =
              let x = place_ends s u g in
              let t : stops s u (place_of s u) ≡ true = ap (stops s u) x.2 ∙ x.1.here in
              inl (place_of s u, record { low = g; taken = n; id = ⊎_elim (λ q. absurd (n q)) (λ q. q) (stop_cases s u (place_of s u) t) })

-- An entry of w, with marks c and d, put where the look-up of w ends.
module _ (s : List ℕ) (v : Sound s) (w : List ℕ) (c d : ℕ) (h : length w ≡ 16) (p : place_of s w < 4096) (c₁ : is_mark c ≡ true) (d₁ : is_mark d ≡ true) where
  abbrev new : List ℕ
  new = put s (place_of s w) (entry_of w c d)

  some : 0 < c
  some = omega (arith, mark_range c c₁)

  small : c < 2 ^ 34
  small = omega (arith, mark_range c c₁)

  pub there : (k : ℕ) → (k ≡ place_of s w → ⊥) → entry_at new k ≡ entry_at s k
  there = placed.there s v.state.long w c d h p some small

  pub taken_here : free new (place_of s w) → ⊥
  taken_here = placed.taken_here s v.state.long w c d h p some small

  id_here : id_of (entry_at new (place_of s w)) ≡ w
  id_here = placed.id_here s v.state.long w c d h p some small

  own_here : place_of new w ≡ place_of s w
  own_here = placed.own_here s v.state.long w c d h p some small

  own_there : (k : ℕ) → k < 4096 → (k ≡ place_of s w → ⊥) → (free new k → ⊥) → place_of new (id_of (entry_at new k)) ≡ k
  own_there k l n t =
      let e = there k n in
      let q : place_of s (id_of (entry_at s k)) ≡ k = v.own k l (λ z. t (ap cancel_of e ∙ z)) in
      let u = id_of (entry_at s k) in
      let r : stops new u (place_of s u) ≡ true = ap (stops new u) q ∙ stop_taken new u k t ∙ ap (λ (x : List ℕ). same x u) (ap id_of e) ∙ same_refl u in
      ap (place_of new) (ap id_of e) ∙ placed.ends s v.state.long w c d h p some small u (omega (arith, q)) r ∙ q

  pub sound_new : Sound new
  sound_new = record {
    state = placed.tidy_put s v.state w c d h p c₁ d₁;
    own = λ k l t. ⊎_elim (λ e. ap (λ (j : ℕ). place_of new (id_of (entry_at new j))) e ∙ ap (place_of new) id_here ∙ own_here ∙ sym e) (λ n. own_there k l n t) (eq_or_ne k (place_of s w));
  }

  has_here : Has new w (place_of s w)
  has_here = record { low = p; taken = taken_here; id = id_here }

  pub own_cancel : cancel_for new w ≡ c
  own_cancel = has_marks new sound_new w (place_of s w) cancel_of has_here ∙ placed.cancel_here s v.state.long w c d h p some small

  pub own_reissue : reissue_for new w ≡ d
  own_reissue = has_marks new sound_new w (place_of s w) reissue_of has_here ∙ placed.reissue_here s v.state.long w c d h p some small (omega (arith, mark_range d d₁))

  -- any other UUID has an entry where it had one, and none where it had none
  module _ (u : List ℕ) (n : w ≡ u → ⊥) where
    apart : (k : ℕ) → Has s u k → k ≡ place_of s w → ⊥
    apart k x e =
        let t : free s (place_of s w) → ⊥ = λ z. x.taken (ap (λ (j : ℕ). cancel_of (entry_at s j)) e ∙ z) in
        ⊎_elim t (λ q. n (sym q ∙ ap (λ (j : ℕ). id_of (entry_at s j)) (sym e) ∙ x.id)) (stop_cases s w (place_of s w) (placed.stop_place s w p))

    stays : (k : ℕ) → Has s u k → Has new u k
    stays k x =
        let e = there k (apart k x) in
        record { low = x.low; taken = λ z. x.taken (ap cancel_of (sym e) ∙ z); id = ap id_of e ∙ x.id }

    none : ((k : ℕ) → Has s u k → ⊥) → (k : ℕ) → Has new u k → ⊥
    none m k x =
        ⊎_elim
        (λ e. n (sym id_here ∙ ap (λ (j : ℕ). id_of (entry_at new j)) (sym e) ∙ x.id))
        (λ q. m k (record { low = x.low; taken = λ z. x.taken (ap cancel_of (there k q) ∙ z); id = ap id_of (sym (there k q)) ∙ x.id }))
        (eq_or_ne k (place_of s w))

    pub other_cancel : cancel_for new u ≡ cancel_for s u
    other_cancel =
        ⊎_elim
        (λ x. has_marks new sound_new u x.0 cancel_of (stays x.0 x.1) ∙ ap cancel_of (there x.0 (apart x.0 x.1)) ∙ sym (has_marks s v u x.0 cancel_of x.1))
        (λ m. none_cancel new sound_new u (none m) ∙ sym (none_cancel s v u m))
        (has_or_none s v u)

    pub other_reissue : reissue_for new u ≡ reissue_for s u
    other_reissue =
        ⊎_elim
        (λ x. has_marks new sound_new u x.0 reissue_of (stays x.0 x.1) ∙ ap reissue_of (there x.0 (apart x.0 x.1)) ∙ sym (has_marks s v u x.0 reissue_of x.1))
        (λ m. none_reissue new sound_new u (none m) ∙ sym (none_reissue s v u m))
        (has_or_none s v u)
