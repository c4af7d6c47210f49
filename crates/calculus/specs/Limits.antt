-- The limits of document 01, each under its name.
use Rattle.std.specs.Prelude.{ℕ, ◌≤◌, ℤ, nat_abs}

-- z is at least −k and at most k, "ends included"
abbrev pub Small : ℕ → ℤ → Type 0
Small k z = nat_abs z ≤ k

-- "1 when the work area has under 6,400 numbers or the answer buffer under 4,268 bytes"
abbrev pub work_numbers : ℕ
work_numbers = 6400

abbrev pub answer_bytes : ℕ
answer_bytes = 4268

-- "a ticket has at most 32,768 bytes"
abbrev pub ticket_bytes : ℕ
ticket_bytes = 32768

-- "u32 n (1 to 196,608)"
abbrev pub alphabet_limit : ℕ
alphabet_limit = 196608

-- "u16 p string variables, u16 q integer variables (each 0 to 16)"; "2 to 16 different variables"
abbrev pub variable_limit : ℕ
variable_limit = 16

-- "0 to 15 of them"
abbrev pub literal_limit : ℕ
literal_limit = 15

-- "1 to 64 characters"; "14 when a length passes 64"
abbrev pub length_limit : ℕ
length_limit = 64

-- "0 to 48 pairs": one for each column that there may be
abbrev pub column_limit : ℕ
column_limit = 48

-- "1 to 8 pairs (fact, i32 multiplier)"
abbrev pub summand_limit : ℕ
summand_limit = 8

-- "Coefficients, constants and multipliers lie within ±1,000,000,000, ends included"
abbrev pub number_limit : ℕ
number_limit = 1000000000

-- "an i32 for each column, within ±100,000,000"
abbrev pub value_limit : ℕ
value_limit = 100000000

-- "At most 128 facts stand on a branch"
abbrev pub fact_limit : ℕ
fact_limit = 128

-- "at most 64 splits have children pending"
abbrev pub pending_limit : ℕ
pending_limit = 64
