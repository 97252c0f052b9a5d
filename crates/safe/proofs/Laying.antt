-- A file laid part after part, its head, its body, marker and HMAC, is the file of the description: each part stands right behind those before it.
use Prim.Native.Nat.{ℕ, ◌+◌, ◌-◌, ◌*◌, ◌/◌, ◌≤◌}
use mathlib.Core.Path.{◌≡◌, refl, sym, ap, ap₂, ◌∙◌}
use mathlib.Core.Bool.{Bool, true, false, not}
use mathlib.Core.List.{List, [], ◌∷◌, ◌++◌, append_assoc, append-nil}
use native.Mathlib.Omega.{arith}
use borrow.Author.Tests.{not-true, not-false}
use lib.ListN.{length, take, drop, length-append, length-drop, length-replicate, drop_of_length-le}
use lib.Seq.{take_at, drop_at, drop-drop, length-take-le}
use Rattle.std.specs.Prelude.{Option, is_some}
use Rattle.words.specs.Numbers.{byte_of, bytes_low}
use Rattle.words.specs.Slices.{zeros}
use Rattle.words.proofs.NumberLaws.{four_low, bytes_sized}
use Rattle.sha256.specs.Hmac.{hmac_of}
use Rattle.body.specs.Decision.{covered_of}
use Rattle.chain.specs.Modes.{cbc_e, encrypted}
use Rattle.chain.specs.Memory.{encrypted_into}
use Rattle.chain.specs.Twofish.{twofish_cipher}
use Rattle.chain.proofs.MemoryLaws.{encrypted_into_lem}
use Rattle.file.specs.Layout.{tag, marker, join, listed, glue, marked_at}
use Rattle.file.specs.Edition.{Stretched}
use Rattle.file.specs.Description.{wrapped, cbc, parts_of, file_of}
use Rattle.file.specs.Writing.{unwritten, written, clear}
use Rattle.file.proofs.Markers.{marked_some}
use Rattle.safe.specs.V3.{v3, stretched_v3}
use Rattle.safe.specs.Laying.{head_of, Laid}
use Rattle.safe.specs.declared.assemble.Values.{Values}
use Rattle.safe.proofs.Slots.{laid}

pub iter_bytes : (x : ℕ) {a b c d : ℕ} → a ≡ byte_of 0 x → b ≡ byte_of 1 x → c ≡ byte_of 2 x → d ≡ byte_of 3 x → a ∷ b ∷ c ∷ d ∷ [] ≡ bytes_low 4 x
iter_bytes x p q r s = cc (four_low x)

-- p is laid at `at` in before, which gives after
abbrev pub Lays : ℕ → List ℕ → List ℕ → List ℕ → Type 0
Lays at p before after = after ≡ take at before ++ (p ++ drop (at + length p) before)

pub head_laid : (s : Stretched) (salt : List ℕ) (iter : ℕ) (K L iv i check keys : List ℕ) {o₀ o₁ o₂ o₃ o₄ o₅ o₆ : List ℕ} (n : ℕ) → 152 ≤ n → o₀ ≡ zeros n
    → length salt ≡ 32 → length check ≡ 32 → length keys ≡ 64 → length iv ≡ 16
    → i ≡ bytes_low 4 iter → check ≡ s.check → keys ≡ wrapped v3 s.key K L
    → Lays 0 tag o₀ o₁ → Lays 4 salt o₁ o₂ → Lays 36 i o₂ o₃ → Lays 40 check o₃ o₄ → Lays 72 keys o₄ o₅ → Lays 136 iv o₅ o₆
    → o₆ ≡ head_of s salt iter K L iv ++ zeros (n - 152)
unfolding tag head_of
head_laid s salt iter K L iv i check keys n h z ls lc lk li ei ec ek e₁ e₂ e₃ e₄ e₅ e₆ =
    let l4 : length i ≡ 4 = ap length ei ∙ (bytes_sized 4 iter).long in
    let a₁ = length-append tag salt in
    let a₂ = length-append (tag ++ salt) i in
    let a₃ = length-append ((tag ++ salt) ++ i) check in
    let a₄ = length-append (((tag ++ salt) ++ i) ++ check) keys in
    let f₁ = laid [] tag n (n - 4) refl (omega arith) z e₁ in
    let f₂ = laid tag salt (n - 4) (n - 36) refl (omega arith) f₁ e₂ in
    let f₃ = laid (tag ++ salt) i (n - 36) (n - 40) {at = 36} (omega arith) (omega arith) f₂ e₃ in
    let f₄ = laid ((tag ++ salt) ++ i) check (n - 40) (n - 72) {at = 40} (omega arith) (omega arith) f₃ e₄ in
    let f₅ = laid (((tag ++ salt) ++ i) ++ check) keys (n - 72) (n - 136) {at = 72} (omega arith) (omega arith) f₄ e₅ in
    let f₆ = laid ((((tag ++ salt) ++ i) ++ check) ++ keys) iv (n - 136) (n - 152) {at = 136} (omega arith) (omega arith) f₅ e₆ in
    f₆
    ∙ ap (λ (x : List ℕ). (((((tag ++ salt) ++ x) ++ check) ++ keys) ++ iv) ++ zeros (n - 152)) ei
    ∙ ap₂ (λ (x y : List ℕ). (((((tag ++ salt) ++ bytes_low 4 iter) ++ x) ++ y) ++ iv) ++ zeros (n - 152)) ec ek

-- the body, encrypted behind a head of 152 bytes
module _ (H K iv body o₁ new : List ℕ) (n : ℕ) (h : 200 + length body ≤ n) (w : length body ≡ 16 * (length body / 16)) (lo : length o₁ ≡ n)
    (e₁ : o₁ ≡ H ++ zeros (n - 152)) (ln : length new ≡ length (take (152 + length body - 152) (drop 152 o₁)))
    (en : new ≡ encrypted_into (cbc_e twofish_cipher K) iv body (take (152 + length body - 152) (drop 152 o₁))) where
  k : 152 + length body - 152 ≡ length body
  k = omega arith

  part_long : length (take (152 + length body - 152) (drop 152 o₁)) ≡ length body
  part_long =
      let d = length-drop 152 o₁ in
      ap (λ (m : ℕ). length (take m (drop 152 o₁))) k ∙ length-take-le (length body) (drop 152 o₁) (omega arith)

  pub head_is_long : length H ≡ 152
  head_is_long =
      let a = ap length e₁ ∙ length-append H (zeros (n - 152)) in
      let z = length-replicate {A = ℕ} (n - 152) 0 in
      omega arith

  pub new_long : length new ≡ length body
  new_long = ln ∙ part_long

  pub new_is : new ≡ cbc v3 K iv body
  unfolding cbc v3
  new_is =
      let l = part_long in
      en
      ∙ encrypted_into_lem (cbc_e twofish_cipher K) (length body / 16) iv body (take (152 + length body - 152) (drop 152 o₁)) w (omega arith)
      ∙ ap (λ (x : List ℕ). encrypted (cbc_e twofish_cipher K) (length body / 16) iv body ++ x)
      (drop_of_length-le (take (152 + length body - 152) (drop 152 o₁)) {i = 16 * (length body / 16)} (omega arith))
      ∙ append-nil (encrypted (cbc_e twofish_cipher K) (length body / 16) iv body)

  module _ (o₂ : List ℕ) (e₂ : o₂ ≡ take 152 o₁ ++ (new ++ drop (152 + length body - 152) (drop 152 o₁))) where
    pub body_laid : o₂ ≡ (H ++ new) ++ zeros (n - 152 - length body)
    body_laid =
        let l = new_long in
        let d : drop (152 + length body - 152) (drop 152 o₁) ≡ drop (152 + length new) o₁ =
        ap (λ (m : ℕ). drop m (drop 152 o₁)) (k ∙ sym l) ∙ drop-drop (length new) 152 o₁ in
        laid H new (n - 152) (n - 152 - length body) (sym head_is_long) (omega arith) e₁ (e₂ ∙ ap (λ (x : List ℕ). take 152 o₁ ++ (new ++ x)) d)

    pub part_is : take (152 + length body - 152) (drop 152 o₂) ≡ new
    part_is =
        ap₂ (λ (m : ℕ) (x : List ℕ). take m (drop 152 x)) (k ∙ sym new_long) (body_laid ∙ append_assoc H new (zeros (n - 152 - length body)))
        ∙ ap (take (length new)) (drop_at H (new ++ zeros (n - 152 - length body)) 152 head_is_long)
        ∙ take_at new (zeros (n - 152 - length body)) (length new) refl

-- the whole file
file_is : (pass salt : List ℕ) (iter : ℕ) (K L iv body : List ℕ)
    → ((head_of (stretched_v3 pass salt iter) salt iter K L iv ++ cbc v3 K iv body) ++ marker) ++ hmac_of L (covered_of body) ≡ file_of v3 pass salt iter K L iv body (covered_of body)
unfolding head_of file_of join listed glue parts_of v3
file_is pass salt iter K L iv body = simp (append_assoc, append-nil)

module _ (v : Values) (body : List ℕ) (n : ℕ) where
  abbrev head : List ℕ
  head = head_of (stretched_v3 v.passphrase.now v.salt.now v.iter) v.salt.now v.iter v.k.now v.l.now v.iv.now

  abbrev cipher : List ℕ
  cipher = cbc v3 v.k.now v.iv.now body

  -- whether a block of the body is the marker
  sought : (c r : List ℕ) {t : Bool} {j : Option ℕ} → c ≡ cipher → length c ≡ length body → j ≡ marked_at (length r / 16) r → r ≡ c → is_some j ≡ t
      → not (clear (length body / 16) cipher) ≡ t
  sought c r e l f g h =
      sym (marked_some (length body / 16) cipher)
      ∙ ap is_some (sym (f ∙ ap₂ marked_at (ap (λ (x : List ℕ). length x / 16) g ∙ ap (λ (m : ℕ). m / 16) l) (g ∙ e)))
      ∙ h

  -- refused: one is
  pub laid_refused : (c r : List ℕ) {out : List ℕ} {j : Option ℕ} → c ≡ cipher → length c ≡ length body → j ≡ marked_at (length r / 16) r → r ≡ c
      → is_some j ≡ true → out ≡ zeros n → Laid v body n 10 out
  unfolding unwritten
  laid_refused c r e l f g h z =
      let q : not (clear (length body / 16) cipher) ≡ true = sought c r e l f g h in
      let o : clear (length body / 16) cipher ≡ false = not-true (clear (length body / 16) cipher) q in
      record { is_number = rw o; is_output = rw o z }

  pub laid_done : (c r m mac : List ℕ) {j : Option ℕ} {o₂ o₃ o₄ : List ℕ} → 200 + length body ≤ n → c ≡ cipher → length c ≡ length body → length head ≡ 152
      → j ≡ marked_at (length r / 16) r → r ≡ c → is_some j ≡ false
      → m ≡ marker → mac ≡ hmac_of v.l.now (covered_of body) → length mac ≡ 32
      → o₂ ≡ (head ++ c) ++ zeros (n - 152 - length body)
      → Lays (152 + length body) m o₂ o₃ → Lays (152 + length body + 16) mac o₃ o₄
      → Laid v body n 0 o₄
  unfolding written v3 marker
  laid_done c r m mac {o₄ = o₄} h e l lh f g i em ea lm b₂ b₃ b₄ =
      let H = head in
      let q : clear (length body / 16) cipher ≡ true = not-false (clear (length body / 16) cipher) (sought c r e l f g i) in
      let lmk : length m ≡ 16 = ap length em in
      let a₁ = length-append H c in
      let a₂ = length-append (H ++ c) m in
      let f₃ = laid (H ++ c) m (n - 152 - length body) (n - 168 - length body) {at = 152 + length body} (omega arith) (omega arith) b₂ b₃ in
      let f₄ = laid ((H ++ c) ++ m) mac (n - 168 - length body) (n - (length body + 200)) {at = 152 + length body + 16} (omega arith) (omega arith) f₃ b₄ in
      let whole : o₄ ≡ file_of v3 v.passphrase.now v.salt.now v.iter v.k.now v.l.now v.iv.now body (covered_of body) ++ zeros (n - (length body + 200)) =
      f₄
      ∙ ap₂ (λ (x y : List ℕ). (((H ++ x) ++ y) ++ mac) ++ zeros (n - (length body + 200))) e em
      ∙ ap (λ (x : List ℕ). (((H ++ cipher) ++ marker) ++ x) ++ zeros (n - (length body + 200))) ea
      ∙ ap (λ (x : List ℕ). x ++ zeros (n - (length body + 200))) (file_is v.passphrase.now v.salt.now v.iter v.k.now v.l.now v.iv.now body) in
      record { is_number = rw q; is_output = rw q whole }
