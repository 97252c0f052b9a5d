-- How the code lays out a file: part after part, on zeros.
use Rattle.std.specs.Prelude.{ℕ, ◌+◌, ◌-◌, ◌*◌, ◌/◌, ◌≤◌, ◌≡◌, true, not, List, [], ◌∷◌, ◌++◌, length}
use Rattle.words.specs.Numbers.{bytes_low}
use Rattle.words.specs.Slices.{zeros}
use Rattle.body.specs.Decision.{is_well_formed}
use Rattle.file.specs.Layout.{tag}
use Rattle.file.specs.Refusals.{refuse_if, deciding}
use Rattle.file.specs.Edition.{Stretched}
use Rattle.file.specs.Description.{wrapped, cbc}
use Rattle.file.specs.Writing.{Writing, unwritten, written, clear}
use Rattle.safe.specs.V3.{v3, v3_edition, stretched_v3}
use Rattle.safe.specs.declared.assemble.Values.{Values}

-- the parts before the body
unfoldable pub head_of : Stretched → List ℕ → ℕ → List ℕ → List ℕ → List ℕ → List ℕ
head_of s salt iter K L iv = ((((tag ++ salt) ++ bytes_low 4 iter) ++ s.check) ++ wrapped v3 s.key K L) ++ iv

-- laid on zeros, n bytes in all
abbrev pub Headed : Values → (n : ℕ) → List ℕ → Type 0
Headed v n output =
    output ≡ head_of (stretched_v3 v.passphrase.now v.salt.now v.iter) v.salt.now v.iter v.k.now v.l.now v.iv.now ++ zeros (n - 152)

-- an output of zeros that holds the file, and a body of whole blocks that is well formed
pub record Blank (body output : List ℕ) : Type 0 where
  pub blank : output ≡ zeros (length output)
  pub holds : length body + 200 ≤ length output
  pub whole : length body ≡ 16 * (length body / 16)
  pub fine : is_well_formed body ≡ true

-- a writing that has passed the early tests: what test 10 then decides
abbrev pub laid_out : Values → (body : List ℕ) (room : ℕ) → Writing
laid_out v body room =
    deciding (λ k. unwritten k room) (refuse_if 10 (not (clear (length body / 16) (cbc v3 v.k.now v.iv.now body))) ∷ [])
    (written v3_edition v.passphrase.now v.salt.now v.iter v.k.now v.l.now v.iv.now body room)

pub record Laid (v : Values) (body : List ℕ) (room number : ℕ) (output : List ℕ) : Type 0 where
  pub is_number : number ≡ (laid_out v body room).number
  pub is_output : output ≡ (laid_out v body room).output
