-- The three demands of `talc_read` and `talc_write` as they ship, each call taken by its contract alone (`TalcRead` and `TalcWrite`): what is said of every call of
-- `read` and `write` (safe, Demands.antt), carried over by `as_read` and `as_written`.
use Prim.Native.Nat.{ℕ, ◌+◌, ◌-◌, ◌<◌, ◌≤◌}
use mathlib.Core.Path.{◌≡◌, sym, ap, ◌∙◌}
use mathlib.Core.Logic.{◌↔◌}
use mathlib.Core.List.{List, [], ◌∷◌, ◌++◌}
use lib.ListN.{length, take, drop}
use lib.Seq.{take_at, drop_at}
use Rattle.words.specs.Numbers.{bytes_low}
use Rattle.words.specs.Slices.{zeros}
use Rattle.file.specs.Description.{IsSafe}
use Rattle.safe.specs.V3.{v3}
use Rattle.safe.specs.Answers.{k_given, l_given}
use Rattle.safe.specs.Calls as Calls
use Rattle.safe.specs.Calls.{salt_in, iter_in, iv_in, Matching, OneToSeven, Accepts}
use Rattle.safe.proofs.Demands as Demands
use Rattle.safe.proofs.Acceptance.{keys_long}
use Rattle.talcfeather.specs.Numbers.{in_bytes}
use Rattle.talcfeather.specs.Read.{TalcRead, TalcAccepts}
use Rattle.talcfeather.specs.Write.{TalcWrite}
use Rattle.talcfeather.proofs.AsRead.{AsRead, as_read, as_written, answer_of}

-- zero keys and counts in bytes
zero_bytes : {k l : List ℕ} {h n : ℕ} (c b : ℕ) → k ≡ zeros 32 → l ≡ zeros 32 → h ≡ 0 → n ≡ 0 → take 80 (k ++ (l ++ in_bytes (h ∷ n ∷ c ∷ b ∷ []))) ≡ zeros 80
unfolding in_bytes bytes_low
zero_bytes c b p q r s = rw (p, q, r, s)

module _ {file passphrase before workspace answer : List ℕ} {ceiling n : ℕ} (c : TalcRead file passphrase ceiling before n workspace answer) where
  abbrev a : AsRead file passphrase ceiling before n workspace answer
  a = as_read c

  -- the keys stand in the first 64 bytes
  accepts_as : {K L body : List ℕ} → TalcAccepts file before n workspace answer K L body ↔ Accepts file before workspace a.r K L body
  accepts_as =
      let l = keys_long a.reads in
      let k_is : take 32 answer ≡ k_given a.r.outcome = ap (take 32) a.answer_is ∙ take_at (k_given a.r.outcome) _ 32 l.0 in
      let rest = ap (drop 32) a.answer_is ∙ drop_at (k_given a.r.outcome) _ 32 l.0 in
      let l_is : take 32 (drop 32 answer) ≡ l_given a.r.outcome = ap (take 32) rest ∙ take_at (l_given a.r.outcome) _ 32 l.1 in (
        λ h. record {
          number = sym a.number_is ∙ h.accepts;
          gives_k = sym k_is ∙ h.gives_k;
          gives_l = sym l_is ∙ h.gives_l;
          long = h.long;
          workspace = h.holds;
        },
        λ h. record {
          accepts = a.number_is ∙ h.number;
          gives_k = k_is ∙ h.gives_k;
          gives_l = l_is ∙ h.gives_l;
          long = h.long;
          holds = h.workspace;
        },
      )

  -- ==== DEMAND 1. The answer is an acceptance or one of 1 to 9. Refused: no keys, no counts of header fields and records, every workspace byte zero.
  pub demand1_number : n ≤ 9
  demand1_number = rw a.number_is (Demands.demand1_number a.reads)

  pub demand1_refused : (n ≡ 0 → ⊥) → (take 80 answer ≡ zeros 80) × (workspace ≡ zeros (length before))
  demand1_refused h =
      let d = Demands.demand1_refused a.reads (λ e. h (a.number_is ∙ e)) in
      (ap (take 80) a.answer_is ∙ zero_bytes a.r.compressions a.r.blocks d.0 d.1 d.2 d.3, d.4)

  -- ==== DEMAND 2. Accepted exactly when the file is a safe of some body, with some values, ITER is at most the ceiling and the workspace holds the body.
  pub demand2_accepted : (n ≡ 0)
      ↔ ((salt : List ℕ) × (iter : ℕ) × (K L iv body : List ℕ) × IsSafe v3 passphrase file salt iter K L iv body × (iter ≤ ceiling) × (length body ≤ length before))
  demand2_accepted =
      let d = Demands.demand2_accepted a.reads in
      (λ h. d.0 (sym a.number_is ∙ h), λ z. a.number_is ∙ d.1 z)

  module _ (K L body : List ℕ) where
    -- With these keys and this body, exactly when it is a safe of that body with those keys.
    pub demand2_call : TalcAccepts file before n workspace answer K L body
        ↔ ((salt : List ℕ) × (iter : ℕ) × (iv : List ℕ) × IsSafe v3 passphrase file salt iter K L iv body × (iter ≤ ceiling) × (length body ≤ length before))
    demand2_call =
        let d = Demands.demand2_call a.reads K L body in
        (λ h. d.0 (accepts_as.0 h), λ z. accepts_as.1 (d.1 z))

    -- Written again with its own values it is the same file, byte for byte, then zeros.
    pub demand2_again : TalcAccepts file before n workspace answer K L body → {output output' : List ℕ} {n' : ℕ}
        → TalcWrite passphrase (salt_in file) (iter_in file) K L (iv_in file) body output n' output' → length file ≤ length output
        → (n' ≡ 0) × (output' ≡ file ++ zeros (length output - length file))
    demand2_again h w fits =
        let b = as_written w in
        let d = Demands.demand2_again a.reads K L body (accepts_as.0 h) b.1 fits in
        (b.2 ∙ d.0, d.1)

module _ {passphrase salt K L iv body before output : List ℕ} {iter n : ℕ} (c : TalcWrite passphrase salt iter K L iv body before n output) where
  -- Writing refused: all zero.
  pub demand1_write : (n ≡ 0 → ⊥) → output ≡ zeros (length before)
  demand1_write h = let b = as_written c in Demands.demand1_write b.1 (λ e. h (b.2 ∙ e))

  -- The writer accepts exactly what is a safe of some file and fits; and then the output is that file, and zeros to its end.
  pub demand2_written : (n ≡ 0) ↔ ((file : List ℕ) × IsSafe v3 passphrase file salt iter K L iv body × (length body + 200 ≤ length before))
  demand2_written =
      let b = as_written c in
      let d = Demands.demand2_written b.1 in
      (λ h. d.0 (sym b.2 ∙ h), λ z. b.2 ∙ d.1 z)

  pub demand2_output : n ≡ 0 → (file : List ℕ) → IsSafe v3 passphrase file salt iter K L iv body → output ≡ file ++ zeros (length before - (length body + 200))
  demand2_output h = let b = as_written c in Demands.demand2_output b.1 (sym b.2 ∙ h)

  -- What the writer accepts is read back under the same passphrase, any ceiling not below ITER and any workspace that holds it: same body, same keys.
  pub demand2_back : n ≡ 0 → {ceiling n' : ℕ} {space space' answer : List ℕ} → TalcRead (take (length body + 200) output) passphrase ceiling space n' space' answer
      → iter ≤ ceiling → length body ≤ length space → TalcAccepts (take (length body + 200) output) space n' space' answer K L body
  demand2_back h d under fits = let b = as_written c in (accepts_as d).1 (Demands.demand2_back b.1 (sym b.2 ∙ h) (as_read d).reads under fits)

-- No proper prefix of an accepted file is accepted, under any passphrase, ceiling and workspace: a half-copied file is never taken for a whole one.
pub demand2_prefix : {file passphrase passphrase' before before' workspace workspace' answer answer' : List ℕ} {ceiling ceiling' k n n' : ℕ}
    → TalcRead file passphrase ceiling before n workspace answer → n ≡ 0 → k < length file
    → TalcRead (take k file) passphrase' ceiling' before' n' workspace' answer' → n' ≡ 0 → ⊥
demand2_prefix c h short c' h' =
    let a = as_read c in
    let a' = as_read c' in
    Demands.demand2_prefix a.reads (sym a.number_is ∙ h) short a'.reads (sym a'.number_is ∙ h')

-- ==== DEMAND 3. Two readings with equal lengths of file, passphrase and workspace and equal ITER, neither stopped by 1 to 7: both refused though both passphrases
-- match, or neither matching, they have the same number, the same 96 bytes of answer and the same workspace.
module _ {file file' passphrase passphrase' before before' workspace workspace' answer answer' : List ℕ} {ceiling ceiling' n n' : ℕ}
    (c : TalcRead file passphrase ceiling before n workspace answer) (c' : TalcRead file' passphrase' ceiling' before' n' workspace' answer')
    (files : length file ≡ length file') (passphrases : length passphrase ≡ length passphrase') (workspaces : length before ≡ length before')
    (iters : iter_in file ≡ iter_in file') (past : OneToSeven n → ⊥) (past' : OneToSeven n' → ⊥) where
  abbrev x : AsRead file passphrase ceiling before n workspace answer
  x = as_read c

  abbrev y : AsRead file' passphrase' ceiling' before' n' workspace' answer'
  y = as_read c'

  told : (x.r ≡ y.r) × (workspace ≡ workspace') → (n ≡ n') × (answer ≡ answer') × (workspace ≡ workspace')
  told e = (
    x.number_is ∙ ap Calls.number_of e.0 ∙ sym y.number_is,
    x.answer_is ∙ ap answer_of e.0 ∙ sym y.answer_is,
    e.1,
  )

  pub demand3_matching : Matching passphrase file → Matching passphrase' file' → (n ≡ 0 → ⊥) → (n' ≡ 0 → ⊥)
      → (n ≡ n') × (answer ≡ answer') × (workspace ≡ workspace')
  demand3_matching m m' r r' =
      told (Demands.demand3_call_matching x.reads y.reads files passphrases workspaces iters (rw x.number_is at past) (rw y.number_is at past') m m'
      (rw x.number_is at r) (rw y.number_is at r'))

  pub demand3_unmatching : (Matching passphrase file → ⊥) → (Matching passphrase' file' → ⊥) → (n ≡ n') × (answer ≡ answer') × (workspace ≡ workspace')
  demand3_unmatching m m' =
      told (Demands.demand3_call_unmatching x.reads y.reads files passphrases workspaces iters (rw x.number_is at past) (rw y.number_is at past') m m')
