-- Past 1 to 8 a reading answers what `settle` answers on what `decrypt` hands on, by its report; and that is the whole body decrypted, by the laws of the steps.
use Prim.Native.Nat.{ℕ, ◌+◌, ◌-◌, ◌≤◌}
use mathlib.Core.Path.{◌≡◌, refl, sym, ap, ap₂, ◌∙◌, subst}
use mathlib.Core.Bool.{Bool, true, false}
use mathlib.Core.List.{List, ◌++◌}
use native.Mathlib.Omega.{arith}
use lib.ListN.{length}
use borrow.Author.Tests.{ltb-false}
use Rattle.words.specs.Slices.{zeros, same}
use Rattle.stretch.specs.Stretch.{start_of, stretched_of}
use Rattle.stretch.proofs.Counts.{key_sized}
use Rattle.chain.specs.Modes.{cbc_d, decrypted}
use Rattle.chain.specs.Twofish.{twofish_cipher}
use Rattle.file.specs.Layout.{split}
use Rattle.file.specs.Edition.{Stretched}
use Rattle.file.specs.Reading.{Report, refused, reading_of, settled}
use Rattle.file.proofs.Passed.{Late, Early, early, passed_early}
use Rattle.file.proofs.Decrypted.{whole_body}
use Rattle.safe.specs.V3.{v3, v3_edition, stretched_v3}
use Rattle.safe.specs.Calls.{salt_in, iter_in, iv_in, encrypted_in, mac_in, blocks_in, stretched_in, key_k_in, key_l_in, last_state, number_of, Reports, Reads}
use Rattle.safe.specs.Steps.{Decrypts, Settles, settled_under, opened_by}
use Rattle.safe.specs.declared.Reading.{Reading}
use Rattle.safe.specs.declared.decrypt.Decrypted.{Decrypted}
use Rattle.safe.proofs.V3Laws.{v3_laws}
use Rattle.safe.proofs.Contracts.{same_reading, number_is, compressions_are, blocks_are}
use Rattle.safe.proofs.Verdicts.{reports_as, checked_passed, checked_failed, longer, settled_parts}

module _ {file passphrase before after : List ℕ} {ceiling : ℕ} {r : Reading} (c : Reads file passphrase ceiling before after r) (late : Late (number_of r)) (checked : number_of r ≡ 8 → ⊥) where
  abbrev t : Report
  t = reading_of v3_edition file passphrase ceiling (length before)

  abbrev s : Stretched
  s = stretched_v3 passphrase (salt_in file) (iter_in file)

  late_report : Late t.number
  late_report = subst Late (number_is c.reports) late

  passed : Early v3_edition (split file) (blocks_in file) file passphrase ceiling (length before)
  passed = early v3_edition file passphrase ceiling (length before) late_report

  is_opened : t ≡ opened_by passphrase file
  unfolding v3
  is_opened = passed_early v3_edition file passphrase ceiling (length before) passed

  is_settled : t ≡ settled_under file s.key s.count
  unfolding refused
  is_settled = by (same s.check (split file).check) refl
    where
      by : (b : Bool) → same s.check (split file).check ≡ b → t ≡ settled_under file s.key s.count
      by true h = is_opened ∙ checked_passed file s h
      by false h = absurd (checked (number_is c.reports ∙ ap (λ (u : Report). u.number) (is_opened ∙ checked_failed file s h)))

  -- what the definition decrypts
  abbrev d₀ : Decrypted
  d₀ = record { keys = record { k = key_k_in passphrase file; l = key_l_in passphrase file }; blocks = (last_state passphrase file).count }

  abbrev memory₀ : List ℕ
  memory₀ = (last_state passphrase file).done

  abbrev report : Report
  report = settled v3_edition d₀.keys.k d₀.keys.l (mac_in file) s.count d₀.blocks memory₀

  -- whatever meets the contract of `decrypt`, and then that of `settle`
  module _ {memory left : List ℕ} {d : Decrypted} {r' : Reading} (is_decrypted : Decrypts file (stretched_in passphrase file) memory d)
      (e : Settles d (mac_in file) r.compressions memory left r') where
    same_state : d ≡ d₀
    same_state = λ i. record { keys = record { k = is_decrypted.k i; l = is_decrypted.l i }; blocks = is_decrypted.count i }

    -- the call's answer is that of `settle`, and so is the front of its workspace, behind which there are zeros
    pub same_answer : (r ≡ r') × (after ≡ left ++ zeros (length before - length memory))
    unfolding v3 stretched_v3
    same_answer =
        let w = whole_body v3_edition v3_laws file (stretched_in passphrase file) is_decrypted.bytes (key_sized (stretched_of (iter_in file) (start_of passphrase (salt_in file)))) is_decrypted.whole in
        let u : Reports report before after r = reports_as (sym is_settled) c.reports in
        let parts = settled_parts d₀.keys.k d₀.keys.l (mac_in file) s.count d₀.blocks memory₀ in
        let v : Settles d₀ (mac_in file) s.count memory₀ left r' =
        subst (λ (k : Decrypted). Settles k (mac_in file) s.count memory₀ left r') same_state
        (subst (λ (m : List ℕ). Settles d (mac_in file) s.count m left r') is_decrypted.text
        (subst (λ (n : ℕ). Settles d (mac_in file) n memory left r') (compressions_are u ∙ parts.1) e)) in
        let fits : length memory₀ ≤ length before = omega (arith, w.1, ltb-false (length before) (length file - 200) passed.t3) in (
          same_reading u v.reports,
          u.memory ∙ sym (longer report (length memory₀) (length before) parts.0 fits)
              ∙ ap₂ (λ (l m : List ℕ). l ++ zeros (length before - length m)) (sym v.reports.memory) (sym is_decrypted.text),
        )

    -- its count is the one that was handed on, and belongs to the whole body decrypted
    pub state_held : (r'.blocks ≡ d.blocks)
        × (d.blocks ≡ 4 + blocks_in file)
        × (memory ≡ decrypted (cbc_d twofish_cipher (key_k_in passphrase file)) (blocks_in file) (iv_in file) (encrypted_in file))
        × (length memory ≡ length file - 200)
    unfolding v3
    state_held =
        let w = whole_body v3_edition v3_laws file (stretched_in passphrase file) is_decrypted.bytes (key_sized (stretched_of (iter_in file) (start_of passphrase (salt_in file)))) is_decrypted.whole in (
          blocks_are e.reports ∙ (settled_parts d.keys.k d.keys.l (mac_in file) r.compressions d.blocks memory).2,
          is_decrypted.count ∙ w.3,
          is_decrypted.text ∙ w.0,
          ap length is_decrypted.text ∙ w.1,
        )
