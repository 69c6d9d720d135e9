-- The numbers of a table.
use Rattle.std.proofs.Common.{ℕ, List, []}
use mir.Syntax.{Const, c_int, c_bool, c_float, c_unit, c_ints, c_repeat, c_parts, c_here}

-- the numbers of a constant that is an array of numbers
abbrev pub numbers : Const → List ℕ
numbers (c_int w n) = []
numbers (c_bool b) = []
numbers (c_float f n) = []
numbers c_unit = []
numbers (c_ints w ns) = ns
numbers (c_repeat c n) = []
numbers (c_parts cs) = []
numbers (c_here n) = []
