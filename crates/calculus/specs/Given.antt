-- The strings that the variables of a leaf get, in words: "The strings: a class with a literal gets it; a class of length 1 gets the character of its code; then
-- each other class, by lowest variable, gets the smallest string of its length, by code points, not yet given".
use Rattle.std.specs.Prelude.{ℕ, ◌<◌, ◌≡◌, ◌≢◌, List, [], ◌∷◌, length, ℤ, pos}
use Rattle.calculus.specs.Alphabet.{Character, Over}
use Rattle.calculus.specs.Facts.{Question, Branch, Function, len, code, literal, value_of}
use Rattle.calculus.specs.Chains.{OneClass, Counts}
use Rattle.calculus.specs.Model.{model_value}
use Rattle.calculus.specs.Meaning.{Assignment, str}
use Rattle.calculus.specs.Extended.{Precedes}

-- s is "the smallest" string with the property P, "by code points": it is equal to or before each of them
pub record Smallest (P : List ℕ → Type 0) (s : List ℕ) : Type 0 where
  pub one_of_them : P s
  pub least : (t : List ℕ) → P t → Precedes s t

-- a string over n characters "of its length", z, that is "not yet given"
pub record Free (n : ℕ) (z : ℤ) (Given : List ℕ → Type 0) (s : List ℕ) : Type 0 where
  pub over : Over n s
  pub of_length : pos (length s) ≡ z
  pub not_given : Given s → ⊥

-- x is the lowest variable of its class
abbrev pub Lowest : Branch → ℕ → Type 0
Lowest b x = (y : ℕ) → y < x → OneClass b x y → ⊥

-- x is the lowest variable of one of the "other" classes: without a literal, and of another length than 1
pub record Other (u : Question) (leaf : Branch) (m : List ℤ) (x : ℕ) : Type 0 where
  pub lowest : Lowest leaf x
  pub no_literal : (l : ℕ) → Counts u leaf x l → ⊥
  pub not_one : model_value u m len x ≢ pos 1

module _ (u : Question) (leaf : Branch) (m : List ℤ) (a : Assignment) where
  -- the strings given before that of the class whose lowest variable is x: to classes with a literal, to classes of length 1, and to those of lower variables
  pub data GivenBefore (x : ℕ) (s : List ℕ) : Type 0 where
    to_literal : (y l : ℕ) → y < u.p → Counts u leaf y l → s ≡ str a y → GivenBefore x s
    to_one : (y : ℕ) → y < u.p → model_value u m len y ≡ pos 1 → s ≡ str a y → GivenBefore x s
    to_lower : (y : ℕ) → y < x → s ≡ str a y → GivenBefore x s

  pub record GivenStrings : Type 0 where
    -- the variables of a class get one string
    pub one_string : (x y : ℕ) → x < u.p → y < u.p → OneClass leaf x y → str a x ≡ str a y
    -- "a class with a literal gets it", where "the lowest literal number counts"
    pub by_literal : (x l : ℕ) → x < u.p → Counts u leaf x l → str a x ≡ literal u l
    -- "a class of length 1 gets the character of its code"
    pub by_code : (x : ℕ) → x < u.p → model_value u m len x ≡ pos 1 → (c : ℕ) × Character u.n c × (model_value u m code x ≡ pos c) × (str a x ≡ c ∷ [])
    -- "then each other class, by lowest variable, gets the smallest string of its length, by code points, not yet given"
    pub by_order : (x : ℕ) → x < u.p → Other u leaf m x → Smallest (Free u.n (model_value u m len x) (GivenBefore x)) (str a x)
    -- lengths and codes are the model's
    pub values : (f : Function) (x : ℕ) → x < u.p → value_of f (str a x) ≡ model_value u m f x
