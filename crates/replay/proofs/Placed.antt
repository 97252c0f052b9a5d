-- An entry of w, put where the look-up of w ends: it is w's, it is taken, and whatever a look-up passed it still passes, since what stood there was free or w's.
use Prim.Native.Nat.{ℕ, ◌^◌, ◌<◌}
use mathlib.Core.Path.{◌≡◌, sym, ap, ◌∙◌}
use mathlib.Core.Bool.{true, false}
use mathlib.Core.Logic.{⊎_elim}
use mathlib.Core.List.{List}
use native.Mathlib.Omega.{arith}
use lib.ListN.{length}
use Rattle.words.specs.Slices.{same}
use Rattle.words.proofs.SliceLaws.{same_refl}
use Rattle.replay.specs.State.{entry_at, id_of, cancel_of, reissue_of, entry_of, put, slot, stops, place_of, is_mark, tidy}
use Rattle.words.proofs.Either.{eq_or_ne}
use Rattle.replay.proofs.Entries.{put_long, put_here, put_there, entry_of_long, entry_id, entry_cancel, entry_reissue}
use Rattle.replay.proofs.Tidy.{Tidy, mark_range, entry_tidy}
use Rattle.replay.proofs.Lookup.{Ends, ends_place, place_ends, stop_cases, stop_taken, pass_taken, stops_alike}

abbrev pub free : List ℕ → ℕ → Type 0
free s k = cancel_of (entry_at s k) ≡ 0

-- where the look-up ends at a taken entry, it is its own
pub own_id : (s u : List ℕ) (k : ℕ) → stops s u k ≡ true → (free s k → ⊥) → id_of (entry_at s k) ≡ u
own_id s u k h n = ⊎_elim (λ z. absurd (n z)) (λ e. e) (stop_cases s u k h)

-- and the look-up of another tells it from that one
pub stop_own : (s w u : List ℕ) (k : ℕ) → stops s w k ≡ true → (free s k → ⊥) → stops s u k ≡ same w u
stop_own s w u k h n = stop_taken s u k n ∙ ap (λ (x : List ℕ). same x u) (own_id s w k h n)

pub stop_place : (s u : List ℕ) → place_of s u < 4096 → stops s u (place_of s u) ≡ true
stop_place s u p = let x = place_ends s u p in ap (stops s u) x.2 ∙ x.1.here

module _ (s : List ℕ) (long : length s ≡ 131072) (w : List ℕ) (c d : ℕ) (h : length w ≡ 16) (p : place_of s w < 4096) (c₁ : 0 < c) (c₂ : c < 2 ^ 34) where
  abbrev new : List ℕ
  new = put s (place_of s w) (entry_of w c d)

  long_new : length (entry_of w c d) ≡ 32
  long_new = entry_of_long w c d h

  pub here : entry_at new (place_of s w) ≡ entry_of w c d
  here = put_here s (place_of s w) (entry_of w c d) long p long_new

  pub there : (k : ℕ) → (k ≡ place_of s w → ⊥) → entry_at new k ≡ entry_at s k
  there k n = put_there s (place_of s w) (entry_of w c d) long p long_new k n

  pub still_long : length new ≡ 131072
  still_long = put_long s (place_of s w) (entry_of w c d) long p long_new

  pub id_here : id_of (entry_at new (place_of s w)) ≡ w
  id_here = ap id_of here ∙ entry_id w c d h

  pub cancel_here : cancel_of (entry_at new (place_of s w)) ≡ c
  cancel_here = ap cancel_of here ∙ entry_cancel w c d h (omega arith)

  pub reissue_here : d < 2 ^ 34 → reissue_of (entry_at new (place_of s w)) ≡ d
  reissue_here d₂ = ap reissue_of here ∙ entry_reissue w c d h (omega arith)

  pub taken_here : free new (place_of s w) → ⊥
  taken_here z = omega (arith, sym cancel_here ∙ z)

  pub stops_here : (u : List ℕ) → stops new u (place_of s w) ≡ same w u
  stops_here u = stop_taken new u (place_of s w) taken_here ∙ ap (λ (x : List ℕ). same x u) id_here

  -- the test of an entry that was taken is what it was
  pub stops_was : (u : List ℕ) → (free s (place_of s w) → ⊥) → stops new u (place_of s w) ≡ stops s u (place_of s w)
  stops_was u t =
      stops_here u ∙ sym (stop_own s w u (place_of s w) (stop_place s w p) t)

  pub stops_there : (u : List ℕ) (k : ℕ) → (k ≡ place_of s w → ⊥) → stops new u k ≡ stops s u k
  stops_there u k n = stops_alike new s u k (there k n)

  pass : (u : List ℕ) (k : ℕ) → stops s u k ≡ false → stops new u k ≡ false
  pass u k f =
      ⊎_elim
      (λ e. ap (stops new u) e ∙ stops_was u (pass_taken s u (place_of s w) (ap (stops s u) (sym e) ∙ f)) ∙ ap (stops s u) (sym e) ∙ f)
      (λ n. stops_there u k n ∙ f)
      (eq_or_ne k (place_of s w))

  -- a look-up that ended at an entry, and still may, does
  pub ends : (u : List ℕ) → place_of s u < 4096 → stops new u (place_of s u) ≡ true → place_of new u ≡ place_of s u
  ends u g t =
      let x = place_ends s u g in
      let y : Ends new u x.0 = record { near = x.1.near; here = ap (stops new u) (sym x.2) ∙ t; before = λ j l. pass u (slot u j) (x.1.before j l) } in
      ends_place new u x.0 y ∙ sym x.2

  pub own_here : place_of new w ≡ place_of s w
  own_here = ends w p (stops_here w ∙ same_refl w)

  -- where the entry was taken before, no look-up moves
  pub places_stay : (free s (place_of s w) → ⊥) → (u : List ℕ) (k : ℕ) → stops new u k ≡ stops s u k
  places_stay t u k = ⊎_elim (λ e. ap (stops new u) e ∙ stops_was u t ∙ ap (stops s u) (sym e)) (λ n. stops_there u k n) (eq_or_ne k (place_of s w))

-- a state is still one
module _ (s : List ℕ) (v : Tidy s) (w : List ℕ) (c d : ℕ) (h : length w ≡ 16) (p : place_of s w < 4096) (c₁ : is_mark c ≡ true) (d₁ : is_mark d ≡ true) where
  some : 0 < c
  some = omega (arith, mark_range c c₁)

  small : c < 2 ^ 34
  small = omega (arith, mark_range c c₁)

  pub tidy_put : Tidy (put s (place_of s w) (entry_of w c d))
  tidy_put = record {
    long = still_long s v.long w c d h p some small;
    each = λ k l. ⊎_elim
        (λ e. ap (λ (j : ℕ). tidy (entry_at (put s (place_of s w) (entry_of w c d)) j)) e ∙ ap tidy (here s v.long w c d h p some small) ∙ entry_tidy w c d h c₁ d₁)
        (λ n. ap tidy (there s v.long w c d h p some small k n) ∙ v.each k l)
        (eq_or_ne k (place_of s w));
  }
