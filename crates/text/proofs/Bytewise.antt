-- Where the run over the bytes stands: what its state lets follow, and the last place where a character ended; each byte brings both one place on, by their definitions.
use Prim.Native.Nat.{ℕ, ◌+◌, ◌≤◌, ◌<◌}
use mathlib.Core.Path.{◌≡◌, refl, sym, ap, ◌∙◌}
use mathlib.Core.Bool.{Bool, cond}
use mathlib.Core.List.{List, [], ◌∷◌, ◌++◌, append_assoc, append-nil}
use native.Mathlib.Numerals.{add-one}
use native.Mathlib.Omega.{arith}
use lib.ListN.{length, take, get_or}
use lib.Seq.{take-suc}
use Rattle.text.specs.Decision.{after_byte, ends_whole, whole, utf8_of, greatest, formed_start}
use Rattle.text.specs.declared.Utf8.{Utf8}
use Rattle.text.specs.declared.Utf8.TheVariants.{Start}

-- i bytes are behind; from the state u on, any bytes t end as they do behind these; n is the greatest place so far where a character ends
pub record Runs (s : List ℕ) (u : Utf8) (n i : ℕ) : Type 0 where
  pub within : i ≤ length s
  behind : (t : List ℕ) → ends_whole u t ≡ ends_whole Start (take i s ++ t)
  formed : n ≡ greatest (λ m. utf8_of (take m s)) i

pub runs_start : (s : List ℕ) → Runs s Start 0 0
unfolding greatest
runs_start s = record { within = omega arith; behind = λ t. refl; formed = refl }

whole_there : (s : List ℕ) (u : Utf8) (i : ℕ) → ((t : List ℕ) → ends_whole u t ≡ ends_whole Start (take i s ++ t)) → whole u ≡ utf8_of (take i s)
unfolding ends_whole
whole_there s u i h = h [] ∙ ap (ends_whole Start) (append-nil (take i s))

one_on : (s : List ℕ) (u : Utf8) (i : ℕ) → ((t : List ℕ) → ends_whole u t ≡ ends_whole Start (take i s ++ t)) → i < length s
    → (t : List ℕ) → ends_whole (after_byte u (get_or s i 0)) t ≡ ends_whole Start (take (i + 1) s ++ t)
unfolding ends_whole
one_on s u i h l t =
    let e : take (i + 1) s ≡ take i s ++ (get_or s i 0 ∷ []) = rw add-one (take-suc s i 0 l) in
    h (get_or s i 0 ∷ t) ∙ ap (ends_whole Start) (sym (append_assoc (take i s) (get_or s i 0 ∷ []) t)) ∙ ap (λ (x : List ℕ). ends_whole Start (x ++ t)) (sym e)

greatest_on : (p : ℕ → Bool) (i : ℕ) → greatest p (i + 1) ≡ cond (p (i + 1)) (i + 1) (greatest p i)
unfolding greatest
greatest_on p i = rw add-one

module _ (s : List ℕ) (u : Utf8) (n i : ℕ) (r : Runs s u n i) where
  pub runs_next : (v : Utf8) (m : ℕ) → i < length s → v ≡ after_byte u (get_or s i 0) → m ≡ cond (whole v) (i + 1) n → Runs s v m (i + 1)
  runs_next v m l e f =
      let b : (t : List ℕ) → ends_whole v t ≡ ends_whole Start (take (i + 1) s ++ t) = λ t. ap (λ (x : Utf8). ends_whole x t) e ∙ one_on s u i r.behind l t in
      record {
        within = omega arith;
        behind = b;
        formed = f ∙ rw (whole_there s v (i + 1) b, r.formed) (sym (greatest_on (λ m. utf8_of (take m s)) i));
      }

  pub runs_end : length s ≤ i → n ≡ formed_start s
  runs_end l = let e : i ≡ length s = omega (arith, r.within) in r.formed ∙ ap (greatest (λ m. utf8_of (take m s))) e
