-- A state of zeros means no events: every entry is free.
use Prim.Native.Nat.{ℕ, ◌+◌, ◌*◌, ◌-◌, ◌<◌, ◌≤◌}
use mathlib.Core.Path.{◌≡◌, refl, sym, ap, ◌∙◌}
use mathlib.Core.List.{List, []}
use native.Mathlib.Omega.{arith}
use lib.ListN.{take, replicate, length-replicate, replicate-append-replicate}
use lib.Seq.{take_at}
use Rattle.words.specs.Numbers.{number_low}
use Rattle.words.specs.Slices.{zeros}
use Rattle.words.proofs.ByteLaws.{drop_same}
use Rattle.replay.specs.Acceptance.{within, gathered}
use Rattle.replay.specs.State.{entry_at, cancel_of, tidy, fresh}
use Rattle.replay.proofs.Tidy.{zeros_tidy}
use Rattle.replay.proofs.Sound.{Sound, Has, none_cancel, none_reissue, cancel_for}
use Rattle.replay.proofs.Marks.{mark_in}
use Rattle.replay.proofs.Count.{taken_none}
use Rattle.replay.proofs.Means.{Means, some_zero}

take_same : (j m : ℕ) → take {A = ℕ} j (replicate (j + m) 0) ≡ replicate j 0
take_same j m = ap (take {A = ℕ} j) (sym (replicate-append-replicate j m 0)) ∙ take_at (replicate j 0) (replicate m 0) j (length-replicate j 0)

entry_zero : (n k : ℕ) → 32 * k + 32 ≤ n → entry_at (zeros n) k ≡ zeros 32
entry_zero n k h =
    let z : n - 32 * k ≡ 32 + (n - 32 * k - 32) = omega arith in
    ap (take 32) (drop_same 0 (32 * k) n (omega arith) ∙ ap (λ (m : ℕ). replicate m 0) z) ∙ take_same 32 (n - 32 * k - 32)

zero_cancel : cancel_of (zeros 32) ≡ 0
unfolding number_low
zero_cancel = refl

module _ (n : ℕ) (h : n ≡ 131072) where
  cancel : (k : ℕ) → k < 4096 → cancel_of (entry_at (zeros n) k) ≡ 0
  cancel k l = ap cancel_of (entry_zero n k (omega arith)) ∙ zero_cancel

  sound : Sound (zeros n)
  sound = record {
    state = record { long = length-replicate n 0 ∙ h; each = λ k l. ap tidy (entry_zero n k (omega arith)) ∙ zeros_tidy };
    own = λ k l t. absurd (t (cancel k l));
  }

  nobody : (u : List ℕ) (k : ℕ) → Has (zeros n) u k → ⊥
  nobody u k x = x.taken (cancel k x.low)

  means : Means (zeros n) []
  unfolding mark_in within gathered
  means = record {
    sound = sound;
    cancels = λ u. none_cancel (zeros n) sound u (nobody u);
    reissues = λ u. none_reissue (zeros n) sound u (nobody u);
    met = λ u. sym (some_zero (cancel_for (zeros n) u) (none_cancel (zeros n) sound u (nobody u)));
    count = sym (taken_none (zeros n) 4096 cancel);
  }

pub fresh_means : Means fresh []
unfolding fresh
fresh_means = means 131072 refl
