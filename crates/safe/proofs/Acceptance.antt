-- What a call of `read` that accepts says of the report, and a report of the call: the workspace's front, as long as the body, is the body.
use Prim.Native.Nat.{ℕ, ◌+◌, ◌-◌}
use mathlib.Core.Path.{◌≡◌, refl, sym, ap, ◌∙◌}
use mathlib.Core.Logic.{◌↔◌}
use mathlib.Core.Bool.{Bool, true, false}
use mathlib.Core.List.{List, ◌++◌}
use native.Mathlib.Omega.{arith}
use lib.Dec.{eqb}
use lib.ListN.{length}
use borrow.Author.Tests.{eqb-true, eqb-false}
use Rattle.words.specs.Numbers.{number_low}
use Rattle.words.specs.Slices.{zeros}
use Rattle.words.proofs.ByteLaws.{append_inj}
use Rattle.file.specs.Layout.{split}
use Rattle.file.specs.Reading.{Report, refused, workspace_of, reading_of, Answers}
use Rattle.file.proofs.Accepted.{Read, file_long, read_safe}
use Rattle.file.proofs.Ends as Ends
use Rattle.safe.specs.V3.{v3_edition}
use Rattle.safe.specs.declared.Reading.{Reading}
use Rattle.safe.proofs.V3Laws.{v3_laws}
use Rattle.safe.specs.Answers.{k_given, l_given}
use Rattle.safe.specs.Calls.{number_of, Reads, Accepts}
use Rattle.safe.proofs.Contracts.{number_is, k_is, l_is}

module _ {file passphrase before after : List ℕ} {ceiling : ℕ} {r : Reading} (c : Reads file passphrase ceiling before after r) where
  abbrev report : Report
  report = reading_of v3_edition file passphrase ceiling (length before)

  abbrev SafeOf : (K L body : List ℕ) → Type 0
  SafeOf K L body = Read v3_edition v3_laws file passphrase ceiling (length before) c.bytes K L body

  safe_of : (K L body : List ℕ) → Answers report K L body → SafeOf K L body
  safe_of K L body a = read_safe v3_edition v3_laws file passphrase ceiling (length before) c.bytes K L body a

  pub is_read : number_of r ≡ 0 → SafeOf report.key_k report.key_l report.body
  is_read h = safe_of _ _ _ (record { accepts = sym (number_is c.reports) ∙ h; gives_k = refl; gives_l = refl; gives_body = refl })

  long_of : (K L body : List ℕ) → SafeOf K L body → length file ≡ 200 + length body
  long_of K L body s = file_long v3_edition v3_laws passphrase file (split file).salt (number_low (split file).iter) K L (split file).iv body s.is_safe

  pub accepts_exactly : (K L body : List ℕ) → Accepts file before after r K L body ↔ Answers report K L body
  unfolding workspace_of
  accepts_exactly K L body = (
    λ a.
        let l = long_of report.key_k report.key_l report.body (is_read a.number) in
        record {
          accepts = sym (number_is c.reports) ∙ a.number;
          gives_k = sym (k_is c.reports) ∙ a.gives_k;
          gives_l = sym (l_is c.reports) ∙ a.gives_l;
          gives_body = (append_inj report.body body (zeros (length before - length report.body)) (zeros (length before - length body))
              (omega (arith, a.long)) (sym c.reports.memory ∙ a.workspace)).0;
        },
    λ a. record {
      number = number_is c.reports ∙ a.accepts;
      gives_k = k_is c.reports ∙ a.gives_k;
      gives_l = l_is c.reports ∙ a.gives_l;
      long = long_of K L body (safe_of K L body a);
      workspace = c.reports.memory ∙ ap (λ (b : List ℕ). b ++ zeros (length before - length b)) a.gives_body;
    },
  )

  -- the keys of an answer have 32 bytes: those of a safe, or zeros
  pub keys_long : (length (k_given r.outcome) ≡ 32) × (length (l_given r.outcome) ≡ 32)
  unfolding refused
  keys_long = go (eqb report.number 0) refl
    where
      go : (b : Bool) → eqb report.number 0 ≡ b → (length (k_given r.outcome) ≡ 32) × (length (l_given r.outcome) ≡ 32)
      go true e =
          let s = (is_read (number_is c.reports ∙ eqb-true report.number 0 e)).is_safe in
          (ap length (k_is c.reports) ∙ s.K_sized.long, ap length (l_is c.reports) ∙ s.L_sized.long)
      go false e =
          let d = Ends.bare v3_edition file passphrase ceiling (length before) (eqb-false report.number 0 e) in
          (ap length (k_is c.reports ∙ ap (λ (t : Report). t.key_k) d), ap length (l_is c.reports ∙ ap (λ (t : Report). t.key_l) d))
