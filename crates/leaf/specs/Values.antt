-- Settled leaves by values: the tests of rules 6 to 11 on lengths and codes, which the code runs. Card's is that of the calculus, by `roomy`.
use Rattle.std.specs.Prelude.{ℕ, Bool, true, false, not, ◌&&◌, ◌||◌, List, length, leb, ℤ, pos, negsuc}
use Rattle.std.proofs.Math.Option.{Option, none, some}
use Rattle.std.specs.Int.Signed.{lt_z}
use Rattle.lists.specs.Lists.{any, all_below}
use Rattle.calculus.specs.Alphabet.{code_ranges}
use Rattle.calculus.specs.LinearForms.{eqℤ}
use Rattle.calculus.specs.Facts.{Question, literal, code_of, len, code}
use Rattle.calculus.specs.Chains.{var_node, lit_node}
use Rattle.calculus.specs.Classes.{same_class, literal_in}
use Rattle.calculus.specs.Rules.{least_power}
use Rattle.calculus.specs.Model.{model_value}
use Rattle.calculus.specs.SettledTest.{settled_card}

-- z and c are a text's length and code
unfoldable pub text_fits : List ℕ → ℤ → ℤ → Bool
text_fits t z c = eqℤ z (pos (length t)) && eqℤ c (code_of t)

-- L-Intro and C-Collapse, by the literal of the class
unfoldable pub literal_fits : Question → Option ℕ → ℤ → ℤ → Bool
literal_fits u none z c = true
literal_fits u (some l) z c = text_fits (literal u l) z c

-- L-Valid
unfoldable pub l_valid_fits : List ℕ → ℕ → ℤ → Bool
l_valid_fits ls x z = same_class ls (var_node x) (lit_node 0) || lt_z (pos 0) z

-- a code in a range
abbrev pub code_in : ℤ → ℕ × ℕ → Bool
code_in (pos c) r = leb r.0 c && leb c r.1
code_in (negsuc c) r = false

-- C-Valid: the code of a string of length 1, and of any other
unfoldable pub code_by : Bool → ℕ → ℤ → Bool
code_by true n c = any (code_in c) (code_ranges n)
code_by false n c = eqℤ c (negsuc 0)

abbrev pub code_fits : ℕ → ℤ → ℤ → Bool
code_fits n z c = code_by (eqℤ z (pos 1)) n c

-- Card's bound: n characters and a length for k different strings
unfoldable pub roomy : ℕ → ℕ → ℕ → Bool
roomy n k size = not (leb n 1) && leb (least_power k n k 0) size

-- the rules with one variable
unfoldable pub var_fits : Question → List ℕ → List ℤ → ℕ → Bool
var_fits u ls m x =
    literal_fits u (literal_in u ls x) (model_value u m len x) (model_value u m code x)
    && (l_valid_fits ls x (model_value u m len x)
    && (code_fits u.n (model_value u m len x) (model_value u m code x)
    && settled_card u ls m x))

-- S-Prop for lengths z, w and codes c, d of one class, C-Inj for those of two
unfoldable pub pair_by : Bool → ℤ → ℤ → ℤ → ℤ → Bool
pair_by true z w c d = eqℤ z w && eqℤ c d
pair_by false z w c d = eqℤ c (negsuc 0) || not (eqℤ c d)

-- the rules with two variables, where x has length z and code c
abbrev pub pair_with : Question → List ℕ → List ℤ → ℕ → ℤ → ℤ → ℕ → Bool
pair_with u ls m x z c y = pair_by (same_class ls (var_node x) (var_node y)) z (model_value u m len y) c (model_value u m code y)

-- where the model gives them
unfoldable pub pair_fits : Question → List ℕ → List ℤ → ℕ → ℕ → Bool
pair_fits u ls m x y = pair_with u ls m x (model_value u m len x) (model_value u m code x) y

-- the rules for a variable, itself and with every variable before it: those after it are tested with it in their turn
abbrev pub by_earlier : Question → List ℕ → List ℤ → ℕ → Bool
by_earlier u ls m x = var_fits u ls m x && all_below x (pair_fits u ls m x)
