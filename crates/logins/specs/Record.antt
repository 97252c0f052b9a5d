-- A record of a body as a login of the table, and what of it the table can't hold (document 02, Q-6).
use Rattle.std.specs.Prelude.{ℕ, true, cond, List, Option, Some, None}
use Rattle.fields.specs.Stored.{Stored}
use Rattle.fields.specs.Value.{value_of}
use Rattle.body.specs.Sections.{first_data}
use Rattle.rows.specs.Login.{Login}
use Rattle.rows.specs.Days.{days_of}
use Rattle.rows.specs.Fit.{unfit, is_misshapen}

-- the login of these data, with the days from the given now, t
abbrev pub login_from : ℕ → List ℕ → List ℕ → List ℕ → List ℕ → List ℕ → Login
login_from t uuid title user group expiry =
    record { uuid = uuid; title = title; user = user; group = group; days = days_of (value_of true 0x0a expiry) t }

-- "A text too long or BadText, one with a zero byte, or a Misshapen expiry"; "fields in the order listed": the type of the first that is refused
abbrev pub fault_from : List ℕ → List ℕ → List ℕ → List ℕ → Option ℕ
fault_from title user group expiry =
    cond (unfit 0x03 80 title) (Some 0x03)
    (cond (unfit 0x04 80 user) (Some 0x04)
    (cond (unfit 0x02 72 group) (Some 0x02)
    (cond (is_misshapen (value_of true 0x0a expiry)) (Some 0x0a) None)))

-- "The first field of each type counts, absent is empty."
unfoldable pub login_of : ℕ → List Stored → Login
login_of t u = login_from t (first_data 0x01 u) (first_data 0x03 u) (first_data 0x04 u) (first_data 0x02 u) (first_data 0x0a u)

unfoldable pub fault_of : List Stored → Option ℕ
fault_of u = fault_from (first_data 0x03 u) (first_data 0x04 u) (first_data 0x02 u) (first_data 0x0a u)
