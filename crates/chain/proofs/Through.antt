-- Both directions go through the blocks alike; so their sizes, and that one undoes the other, are proved once: by recursion on the number of blocks.
use Rattle.std.proofs.Common.{◌≡◌, ℕ, zero, suc, ◌*◌, List, [], ◌∷◌, ◌++◌, length, take, drop, refl, ap, arith, take-append-drop, take_at, drop_at}
use Rattle.words.specs.Numbers.{none, Sized}
use Rattle.words.proofs.ByteLaws.{sized_append, sized_take, sized_drop, resized}
use Rattle.chain.specs.Modes.{encrypted, decrypted}

-- the first n blocks of l, each made by f from what g hands on and itself
abbrev pub through : (f g : List ℕ → List ℕ → List ℕ) → ℕ → List ℕ → List ℕ → List ℕ
through f g zero p l = []
through f g (suc n) p l = f p (take 16 l) ++ through f g n (g p (take 16 l)) (drop 16 l)

-- encryption hands on the block that it makes, decryption the block that it takes
abbrev pub taken : List ℕ → List ℕ → List ℕ
taken p b = b

pub through_e : (e : List ℕ → List ℕ → List ℕ) (n : ℕ) (p l : List ℕ) → through e e n p l ≡ encrypted e n p l
unfolding encrypted
through_e e zero p l = refl
through_e e (suc n) p l = ap (λ (z : List ℕ). e p (take 16 l) ++ z) (through_e e n (e p (take 16 l)) (drop 16 l))

pub through_d : (d : List ℕ → List ℕ → List ℕ) (n : ℕ) (p l : List ℕ) → through d taken n p l ≡ decrypted d n p l
unfolding decrypted
through_d d zero p l = refl
through_d d (suc n) p l = ap (λ (z : List ℕ). d p (take 16 l) ++ z) (through_d d n (take 16 l) (drop 16 l))

-- what makes a block of a block
abbrev pub Makes : (List ℕ → List ℕ → List ℕ) → Type 0
Makes f = (p b : List ℕ) → Sized 16 p → Sized 16 b → Sized 16 (f p b)

empty : (l : List ℕ) → length l ≡ 16 * 0 → [] ≡ l
empty [] h = refl
empty (a ∷ l) h = absurd (omega arith)

module _ (f g : List ℕ → List ℕ → List ℕ) (mf : Makes f) (mg : Makes g) where
  pub through_sized : (n : ℕ) (p l : List ℕ) → Sized 16 p → Sized (16 * n) l → Sized (16 * n) (through f g n p l)
  through_sized zero p l hp h = record { long = refl; bytes = none }
  through_sized (suc n) p l hp h =
      let b = sized_take 16 (16 * suc n) l (omega arith) h in
      resized (omega arith)
      (sized_append 16 (16 * n) (f p (take 16 l)) (through f g n (g p (take 16 l)) (drop 16 l)) (mf p (take 16 l) hp b)
      (through_sized n (g p (take 16 l)) (drop 16 l) (mg p (take 16 l) hp b) (sized_drop 16 (16 * suc n) (16 * n) l (omega arith) h)))

  -- f' undoes f, and g' hands on what g does
  module _ (f' g' : List ℕ → List ℕ → List ℕ) (back : (p b : List ℕ) → Sized 16 p → Sized 16 b → f' p (f p b) ≡ b)
      (same : (p b : List ℕ) → Sized 16 p → Sized 16 b → g' p (f p b) ≡ g p b) where
    pub through_back : (n : ℕ) (p l : List ℕ) → Sized 16 p → Sized (16 * n) l → through f' g' n p (through f g n p l) ≡ l
    through_back zero p l hp h = empty l h.long
    through_back (suc n) p l hp h =
        let b = sized_take 16 (16 * suc n) l (omega arith) h in
        let c = (mf p (take 16 l) hp b).long in
        let R = through f g n (g p (take 16 l)) (drop 16 l) in
        rw (
          take_at (f p (take 16 l)) R 16 c,
          drop_at (f p (take 16 l)) R 16 c,
          back p (take 16 l) hp b,
          same p (take 16 l) hp b,
          through_back n (g p (take 16 l)) (drop 16 l) (mg p (take 16 l) hp b) (sized_drop 16 (16 * suc n) (16 * n) l (omega arith) h),
        )
        (take-append-drop 16 l)
