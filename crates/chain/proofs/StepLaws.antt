-- After n steps of decryption the state is the first n blocks decrypted, the rest is still to come, and the count has gone on by n: by recursion
-- on the number of steps.
use Rattle.std.proofs.Common.{◌≡◌, ℕ, zero, suc, ◌+◌, ◌*◌, List, ◌++◌, take, drop, sym, refl, ap, ◌∙◌, append_assoc, append-nil, add-zero, arith, drop-drop}
use Rattle.chain.specs.Modes.{decrypted}
use Rattle.chain.specs.Decryption.{Decryption, decryption, step, run}

-- the first of n + 1 steps
pub run_first : {S : Type 0} (f : S → S) (n : ℕ) (s : S) → run f (suc n) s ≡ run f n (f s)
unfolding run
run_first f zero s = refl
run_first f (suc n) s = ap f (run_first f n s)

module _ (d : List ℕ → List ℕ → List ℕ) where
  pub steps_done : (n : ℕ) (s : Decryption) → (run (step d) n s).done ≡ s.done ++ decrypted d n s.prev s.rest
  unfolding run step decrypted
  steps_done zero s = sym (append-nil s.done)
  steps_done (suc n) s =
      ap (λ (t : Decryption). t.done) (run_first (step d) n s)
      ∙ steps_done n (step d s)
      ∙ append_assoc s.done (d s.prev (take 16 s.rest)) (decrypted d n (take 16 s.rest) (drop 16 s.rest))

  pub steps_count : (n : ℕ) (s : Decryption) → (run (step d) n s).count ≡ s.count + n
  unfolding run step
  steps_count zero s = sym (add-zero s.count)
  steps_count (suc n) s = let h = steps_count n s in omega arith

  pub steps_rest : (n : ℕ) (s : Decryption) → (run (step d) n s).rest ≡ drop (16 * n) s.rest
  unfolding run step
  steps_rest zero s = refl
  steps_rest (suc n) s =
      let e : 16 * n + 16 ≡ 16 * suc n = omega arith in
      ap (drop 16) (steps_rest n s) ∙ drop-drop 16 (16 * n) s.rest ∙ ap (λ (k : ℕ). drop k s.rest) e

  -- from a start: the first n blocks of l decrypted, and the count n past that of the earlier stage
  pub decryption_done : (n : ℕ) (p l : List ℕ) (c : ℕ) → (run (step d) n (decryption p l c)).done ≡ decrypted d n p l
  unfolding decryption
  decryption_done n p l c = steps_done n (decryption p l c)

  pub decryption_count : (n : ℕ) (p l : List ℕ) (c : ℕ) → (run (step d) n (decryption p l c)).count ≡ c + n
  unfolding decryption
  decryption_count n p l c = steps_count n (decryption p l c)

  pub decryption_rest : (n : ℕ) (p l : List ℕ) (c : ℕ) → (run (step d) n (decryption p l c)).rest ≡ drop (16 * n) l
  unfolding decryption
  decryption_rest n p l c = steps_rest n (decryption p l c)
