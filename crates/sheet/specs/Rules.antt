-- Which refusal each call owes, line by line and in order.
use Rattle.std.specs.Prelude.{ℕ, Bool, ◌&&◌, None, ◌==◌, nat_le, nat_lt}
use Rattle.refusal.specs.Due.{Due, unless}
use Rattle.field.specs.Operations.{Operations}
use Rattle.sheet.specs.Shape.{Shape, log_of_n}

-- how many records an entry table has
abbrev pub table_size : ℕ
table_size = 2048

abbrev pub in_limits : Shape → Bool
in_limits S = (nat_le 1 S.m && nat_le S.m 2048) && ((nat_le 1 S.l && nat_le S.l 256) && (nat_le S.l S.m && nat_le S.N 512))

-- granted where the shape is within the limits and the field has a root of one of the order n; else as the lines below say
abbrev pub planned : {F : Type 0} → Operations F → Shape → Due → Due
planned O S below =
    unless (in_limits S) 1
    (unless (nat_le (log_of_n S) O.adicity) 2 below)

-- values: the length of the value table
abbrev pub make_due : {F : Type 0} → Operations F → Shape → (values : ℕ) → Due
make_due O S values = planned O S (unless (values == S.m) 5 None)

abbrev pub inside : Shape → (matrix row wire : ℕ) → Bool
inside S matrix row wire = nat_lt matrix 3 && (nat_lt row S.N && nat_lt wire S.m)

-- used: how many entries are used; entries: the length of the entry table
abbrev pub enter_due : Shape → (used entries matrix row wire : ℕ) → Due
enter_due S used entries matrix row wire =
    unless (entries == table_size) 5
    (unless (inside S matrix row wire) 3
    (unless (nat_lt used table_size) 4 None))

abbrev pub assign_due : Shape → (values wire : ℕ) → Due
assign_due S values wire =
    unless (values == S.m) 5
    (unless (nat_le 1 wire && nat_lt wire S.m) 3 None)
