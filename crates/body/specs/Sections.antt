-- The header and the records of a list of fields: what stands before, between and after its ENDs.
use Rattle.std.specs.Prelude.{ℕ, ◌+◌, Bool, cond, List, [], ◌∷◌, ◌++◌, eqb}
use Rattle.fields.specs.Stored.{Stored}

-- END: type ff
abbrev pub is_end : Stored → Bool
is_end f = eqb f.kind 0xff

-- f before the first run
abbrev pub push : Stored → List (List Stored) → List (List Stored)
push f [] = (f ∷ []) ∷ []
push f (r ∷ rs) = (f ∷ r) ∷ rs

-- the runs of fields that the ENDs part; the last run is what follows the last END
unfoldable pub runs : List Stored → List (List Stored)
runs [] = [] ∷ []
runs (f ∷ fs) = cond (is_end f) ([] ∷ runs fs) (push f (runs fs))

-- how many of the fields are of type k
abbrev pub count : ℕ → List Stored → ℕ
count k [] = 0
count k (f ∷ fs) = cond (eqb f.kind k) 1 0 + count k fs

-- the data of the first field of type k; absent is empty
unfoldable pub first_data : ℕ → List Stored → List ℕ
first_data k [] = []
first_data k (f ∷ fs) = cond (eqb f.kind k) f.content (first_data k fs)

-- the data bytes of all fields in order: what the HMAC covers, and neither lengths, types nor fill
abbrev pub covered : List Stored → List ℕ
covered [] = []
covered (f ∷ fs) = f.content ++ covered fs
