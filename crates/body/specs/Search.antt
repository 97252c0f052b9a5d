-- How the code searches: field by field, with the number and the place of the record that it is in, and how many fields were visited. Nothing here is to be believed: no contract of a public function mentions it.
use Rattle.std.specs.Prelude.{ℕ, ◌+◌, Bool, cond, ◌||◌, Some, None, Ok, List, [], ◌∷◌, eqb, length}
use Rattle.fields.specs.Stored.{Stored, room_of}
use Rattle.fields.specs.declared.Cursor.{Cursor}
use Rattle.body.specs.Sections.{is_end}
use Rattle.body.specs.Decision.{taken_from}
use Rattle.body.specs.Find.{at_place, is_match}
use Rattle.body.specs.declared.Found.{Found}
use Rattle.body.specs.declared.search.Progress.{Progress}

-- in record n, which starts at place p, with v fields visited; in the header, before record 0
abbrev pub at_record : ℕ → ℕ → ℕ → Progress
at_record n p v = record { at = at_place n p; visited = v }

-- one field more, of type k, which does not decide; q: the place of the next one
abbrev pub visit_of : Progress → Bool → ℕ → ℕ → Progress
visit_of x r k q = at_record (x.at.number + cond (eqb k 0xff) (cond r 1 0) 0) (cond (eqb k 0xff) q x.at.place) (x.visited + 1)

-- from the first of the fields on, which stands at place q
unfoldable pub searched : ℕ → ℕ → Progress → Bool → ℕ → List Stored → Found
searched a b x r q [] = record { sought = Ok None; visited = x.visited }
searched a b x r q (f ∷ fs) =
    cond (is_match a b r f.kind f.content) (record { sought = Ok (Some x.at); visited = x.visited + 1 })
    (searched a b (visit_of x r f.kind (q + room_of (length f.content))) (r || is_end f) (q + room_of (length f.content)) fs)

-- over the fields that the walk takes, on from a cursor
abbrev pub searched_on : ℕ → ℕ → Progress → Cursor → List ℕ → Found
searched_on a b x c s = searched a b x c.in_record c.place (taken_from s c.place)
