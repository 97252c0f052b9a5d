-- The V3 format: SHA-256 and its stretching, HMAC-SHA-256, Twofish, and document 01's well-formed body.
use Rattle.std.specs.Prelude.{ℕ, ◌≡◌, List}
use Rattle.sha256.specs.Hmac.{hmac_of}
use Rattle.stretch.specs.Stretch.{floor, start_of, step_of, stretched_of, key_of}
use Rattle.chain.specs.Twofish.{twofish_cipher}
use Rattle.body.specs.Sections.{covered}
use Rattle.body.specs.WellFormed.{WellFormed}
use Rattle.body.specs.Decision.{is_well_formed, covered_of, headers_of, records_of}
use Rattle.file.specs.Edition.{Format, Edition, Stretched}

-- after ITER steps the stretcher holds P', and its check goes on from there
unfoldable pub stretched_v3 : List ℕ → List ℕ → ℕ → Stretched
stretched_v3 passphrase salt iter =
    record {
      key = key_of (stretched_of iter (start_of passphrase salt));
      check = key_of (step_of (stretched_of iter (start_of passphrase salt)));
      count = (step_of (stretched_of iter (start_of passphrase salt))).count;
    }

-- the body is well formed, and d are the data bytes of all its fields in order
abbrev pub BodyV3 : List ℕ → List ℕ → Type 0
BodyV3 b d = (w : WellFormed b) × (covered w.fields ≡ d)

unfoldable pub v3 : Format
v3 = record { floor = floor; stretched = stretched_v3; hmac = hmac_of; cipher = twofish_cipher; Body = BodyV3 }

-- with the well-formed body as functions of the bytes
abbrev pub v3_edition : Edition
v3_edition = record { format = v3; is_well_formed = is_well_formed; covered = covered_of; headers = headers_of; records = records_of }
