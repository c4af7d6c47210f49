-- A step that fits has the shape that it shows, and the walk over shapes is the walk over facts, counted.
use Prim.Native.Nat.{ℕ, zero, suc, ◌+◌, ◌≤◌}
use native.Mathlib.Omega.{arith}
use mathlib.Core.Path.{◌≡◌, refl, sym, ◌∙◌, ap, ap₂, subst}
use mathlib.Core.Bool.{Bool, true, false, not, ◌&&◌}
use mathlib.Core.Option.{some, get_or}
use mathlib.Core.List.{List, [], ◌∷◌, ◌++◌, map}
use lib.ListN.{length, replicate, get_elem?, length-append, length-replicate}
use lib.Dec.{leb, eqb}
use lib.IntN.{negsuc}
use borrow.Author.Tests.{lt-leb}
use Rattle.lists.proofs.Options.{some_injective, none_some}
use Rattle.lists.specs.Lists.{All}
use Rattle.lists.proofs.Lists.{element_map, all_map, all_replicate}
use Rattle.calculus.specs.Alphabet.{character_count, code_ranges}
use Rattle.calculus.specs.Facts.{Question, Fact, same, not_same, is_literal, arithmetic, ge, eq, ne, Branch}
use Rattle.calculus.specs.Classes.{labels, same_class, class_literal, conflict}
use Rattle.calculus.specs.Chains.{var_node}
use Rattle.calculus.specs.Steps.{Step, Sum, BranchOn, Apart, AConf, SConf, SProp, LIntro, LValid}
use Rattle.calculus.specs.Steps.{CCollapse, CValid, CInj, Card, Join, pair_count, last_count, shape}
use Rattle.calculus.specs.LinearForms.{scale, eq_integers}
use Rattle.calculus.specs.Children.{child_at, code_child, pair_children_with, pair_children, bound_child}
use Rattle.calculus.specs.Rules.{sum_of, divided, apart_of, is_false, join_form, join_of, neighbours, distinct, least_power, last_child, card_children, children}
use Rattle.calculus.specs.Walk.{Waiting, Walk, working, closed, wait, cut_back, enter}
use Rattle.calculus.proofs.Tests.{guard→, then→}
use Rattle.calculus.proofs.Walks.{child_taken}

recount : (cs : List (List Fact)) (j k : ℕ) → j ≡ k → map length cs ≡ replicate j 1 → map length cs ≡ replicate k 1
recount cs j k e h = h ∙ ap (λ n. replicate n 1) e

pairs_with_sizes : (x : ℕ) (ys : List ℕ) (more : List (List Fact)) (k : ℕ)
    → map length more ≡ replicate k 1
    → map length (pair_children_with x ys more) ≡ replicate (length ys + k) 1
pairs_with_sizes x [] more k h = recount more k (0 + k) (omega arith) h
pairs_with_sizes x (y ∷ ys) more k h =
    recount (pair_children_with x (y ∷ ys) more) (suc (length ys + k)) (suc (length ys) + k) (omega arith) (ap (λ l. 1 ∷ l) (pairs_with_sizes x ys more k h))

pairs_sizes : (xs : List ℕ) (more : List (List Fact)) (k : ℕ)
    → map length more ≡ replicate k 1
    → map length (pair_children xs more) ≡ replicate (pair_count (length xs) + k) 1
pairs_sizes [] more k h = recount more k (0 + k) (omega arith) h
pairs_sizes (x ∷ xs) more k h =
    recount (pair_children (x ∷ xs) more) (length xs + (pair_count (length xs) + k)) ((length xs + pair_count (length xs)) + k) (omega arith)
    (pairs_with_sizes x xs (pair_children xs more) (pair_count (length xs) + k) (pairs_sizes xs more k h))

codes_sizes : (u : Question) (x : ℕ) (rs : List (ℕ × ℕ)) → map length (map (code_child u x) rs) ≡ map (λ r. 3) rs
codes_sizes u x [] = refl
codes_sizes u x (r ∷ rs) = ap (λ l. 3 ∷ l) (codes_sizes u x rs)

last_count_law : (n : ℕ) → last_count n ≡ elim (leb n 1) [ true ↦ 0 | false ↦ 1 ]
last_count_law zero = refl
last_count_law (suc zero) = refl
last_count_law (suc (suc n)) = rw (lt-leb (suc (suc n)) 1 (omega arith))

last_shape : (u : Question) (x m : ℕ) → map length (last_child u x m) ≡ replicate (last_count (character_count u.n)) 1
last_shape u x m = by_test (leb (character_count u.n) 1) ∙ ap (λ k. replicate k 1) (sym (last_count_law (character_count u.n)))
  where
    by_test : (t : Bool)
        → map (length {A = Fact}) (elim t as (λ _. List (List Fact)) [ true ↦ [] | false ↦ bound_child u x (least_power m (character_count u.n) m 0) ])
        ≡ replicate (elim t as (λ _. ℕ) [ true ↦ 0 | false ↦ 1 ]) 1
    by_test true = refl
    by_test false = refl

card_shape : (u : Question) (b : Branch) (xs : List ℕ) {cs : List (List Fact)}
    → card_children u b xs ≡ some cs
    → map length cs ≡ replicate (pair_count (length xs) + last_count (character_count u.n)) 1
card_shape u b [] e = absurd (none_some e)
card_shape u b (x ∷ []) e = absurd (none_some e)
card_shape u b (x ∷ y ∷ xs) e =
    let m : ℕ = length (x ∷ y ∷ xs) in
    ap (map length) (sym (guard→ (distinct (x ∷ y ∷ xs) && neighbours u b x (y ∷ xs)) e).1)
    ∙ pairs_sizes (x ∷ y ∷ xs) (last_child u x m) (last_count (character_count u.n)) (last_shape u x m)

parted_shape : (f : Fact) {cs : List (List Fact)} → apart_of f ≡ some cs → map length cs ≡ 1 ∷ 1 ∷ []
parted_shape (same x y) e = absurd (none_some e)
parted_shape (not_same x y) e = absurd (none_some e)
parted_shape (is_literal x l) e = absurd (none_some e)
parted_shape (arithmetic ge g) e = absurd (none_some e)
parted_shape (arithmetic eq g) e = absurd (none_some e)
parted_shape (arithmetic ne g) e = ap (map length) (sym (some_injective e))

joined_shape : (f g : Fact) {cs : List (List Fact)} → join_of f g ≡ some cs → map length cs ≡ 1 ∷ []
joined_shape f g e =
    let (a, _, e2) = then→ (join_form f) _ e in
    let (h, _, e3) = then→ (join_form g) _ e2 in
    ap (map length) (sym (guard→ (eq_integers (scale (negsuc 0) a) h) e3).1)

-- how many children, how many facts each adds, or that the rule closes
pub children_shape : (u : Question) (b : Branch) (st : Step) (cs : List (List Fact)) → children u b st ≡ some cs → map length cs ≡ shape u.n st
unfolding shape
children_shape u b (Sum d ts) cs e =
    let (r, _, e2) = then→ (sum_of b ts) _ e in
    let (g, _, e3) = then→ (divided d r) _ e2 in
    ap (map length) (sym (some_injective e3))
children_shape u b (BranchOn g) cs e = ap (map length) (sym (some_injective e))
children_shape u b (Apart k) cs e = let (f, _, e2) = then→ (get_elem? b k) _ e in parted_shape f e2
children_shape u b (AConf k) cs e = let (f, _, e2) = then→ (get_elem? b k) _ e in ap (map length) (sym (guard→ (is_false f) e2).1)
children_shape u b SConf cs e = ap (map length) (sym (guard→ (conflict u b) e).1)
children_shape u b (SProp f x y) cs e = ap (map length) (sym (guard→ (not (eqb x y) && same_class (labels b) (var_node x) (var_node y)) e).1)
children_shape u b (LIntro x) cs e = let (l, _, e2) = then→ (class_literal u b x) _ e in ap (map length) (sym (some_injective e2))
children_shape u b (LValid x) cs e = ap (map length) (sym (some_injective e))
children_shape u b (CCollapse x) cs e = let (l, _, e2) = then→ (class_literal u b x) _ e in ap (map length) (sym (some_injective e2))
children_shape u b (CValid x) cs e = ap (map length) (sym (some_injective e)) ∙ ap (λ l. 2 ∷ l) (codes_sizes u x (code_ranges u.n))
children_shape u b (CInj x y) cs e = ap (map length) (sym (guard→ (not (eqb x y)) e).1)
children_shape u b (Card xs) cs e = card_shape u b xs e
children_shape u b (Join j k) cs e =
    let (f, _, e2) = then→ (get_elem? b j) _ e in
    let (g, _, e3) = then→ (get_elem? b k) _ e2 in
    joined_shape f g e3

-- ---- the walk counted

abbrev pub counted : Waiting Branch (List Fact) → Waiting ℕ ℕ
counted s = record { mark = length s.mark; child = length s.child; rest = map length s.rest }

-- the numbers of facts on the branch and at each pending split
abbrev pub count : Walk Branch (List Fact) → Walk ℕ ℕ
count (working b ss) = working (length b) (map counted ss)
count closed = closed

wait_counted : (b : Branch) (cs : List (List Fact)) (ss : List (Waiting Branch (List Fact)))
    → map counted (wait b cs ss) ≡ wait (length b) (map length cs) (map counted ss)
wait_counted b [] ss = refl
wait_counted b (c ∷ cs) ss = refl

cut_back_counted : (ss : List (Waiting Branch (List Fact))) → count (cut_back ◌++◌ ss) ≡ cut_back ◌+◌ (map counted ss)
cut_back_counted [] = refl
cut_back_counted (s ∷ ss) = ap₂ working (length-append s.mark s.child) (wait_counted s.mark s.rest ss)

enter_counted : (b : Branch) (cs : List (List Fact)) (ss : List (Waiting Branch (List Fact)))
    → count (enter ◌++◌ b cs ss) ≡ enter ◌+◌ (length b) (map length cs) (map counted ss)
enter_counted b [] ss = cut_back_counted ss
enter_counted b (c ∷ cs) ss = ap₂ working (length-append b c) (wait_counted b cs ss)

-- under claim 1 a step that fits moves the walk over shapes just as the walk over facts
pub shape_walks : (u : Question) (b : Branch) (st : Step) (cs : List (List Fact)) (ss : List (Waiting Branch (List Fact))) → children u b st ≡ some cs
    → count (enter ◌++◌ b cs ss) ≡ enter ◌+◌ (length b) (shape u.n st) (map counted ss)
shape_walks u b st cs ss e = enter_counted b cs ss ∙ ap (λ l. enter ◌+◌ (length b) l (map counted ss)) (children_shape u b st cs e)

child_map : {A B : Type 0} (f : A → B) (cs : List A) (k : ℕ) {c : A} → child_at cs k ≡ some c → child_at (map f cs) k ≡ some (f c)
child_map f cs zero e = absurd (none_some e)
child_map f cs (suc k) e = element_map f cs k e

-- and under claim 2 the child taken adds as many facts as its shape says
pub shape_takes : (u : Question) (b : Branch) (t : Step × ℕ) (c : List Fact) → child_taken u b t ≡ some c
    → length (b ++ c) ≡ length b + get_or (child_at (shape u.n t.0) t.1) 0
shape_takes u b t c e =
    let (cs, f, g) = then→ (children u b t.0) (λ cs. child_at cs t.1) e in
    length-append b c
    ∙ ap (λ o. length b + get_or o 0) (sym (child_map length cs t.1 g))
    ∙ ap (λ s. length b + get_or (child_at s t.1) 0) (children_shape u b t.0 cs f)

-- ---- how many facts the children add

threes : (rs : List (ℕ × ℕ)) → map {B = ℕ} (λ r. 3) rs ≡ replicate (length rs) 3
threes [] = refl
threes (r ∷ rs) = ap (λ l. 3 ∷ l) (threes rs)

-- one to three, for each child
abbrev pub OneToThree : ℕ → Type 0
OneToThree k = (1 ≤ k) × (k ≤ 3)

shape_bounds : (n : ℕ) (st : Step) → All OneToThree (shape n st)
unfolding shape
shape_bounds n (Sum d ts) = (omega arith, tt)
shape_bounds n (BranchOn e) = (omega arith, (omega arith, tt))
shape_bounds n (Apart k) = (omega arith, (omega arith, tt))
shape_bounds n (AConf k) = tt
shape_bounds n SConf = tt
shape_bounds n (SProp f x y) = (omega arith, tt)
shape_bounds n (LIntro x) = (omega arith, tt)
shape_bounds n (LValid x) = (omega arith, (omega arith, tt))
shape_bounds n (CCollapse x) = (omega arith, tt)
shape_bounds n (CValid x) =
    (omega arith, subst (All OneToThree) (sym (threes (code_ranges n))) (all_replicate OneToThree (length (code_ranges n)) 3 (omega arith)))
shape_bounds n (CInj x y) = (omega arith, (omega arith, (omega arith, tt)))
shape_bounds n (Card xs) = all_replicate OneToThree (pair_count (length xs) + last_count (character_count n)) 1 (omega arith)
shape_bounds n (Join j k) = (omega arith, tt)

-- no child adds more than three
pub shape_small : (n : ℕ) (st : Step) → All (λ k. k ≤ 3) (shape n st)
shape_small n st = all_map (shape n st) (λ k h. h.1) (shape_bounds n st)

pub children_add : (u : Question) (b : Branch) (st : Step) (cs : List (List Fact)) → children u b st ≡ some cs → All (λ c. OneToThree (length c)) cs
children_add u b st cs e = each cs (subst (All OneToThree) (sym (children_shape u b st cs e)) (shape_bounds u.n st))
  where
    each : (cs : List (List Fact)) → All OneToThree (map length cs) → All (λ c. OneToThree (length c)) cs
    each [] h = tt
    each (c ∷ cs) (h, hs) = (h, each cs hs)

-- the children after the first add alike
abbrev pub Alike : List ℕ → Type 0
Alike [] = Unit {0}
Alike (c ∷ []) = Unit {0}
Alike (c ∷ d ∷ ds) = ds ≡ replicate (length ds) d

alike_behind : (c d k : ℕ) → Alike (c ∷ replicate k d)
alike_behind c d zero = tt
alike_behind c d (suc k) = ap (λ j. replicate j d) (sym (length-replicate k d))

alike_all : (c k : ℕ) → Alike (replicate k c)
alike_all c zero = tt
alike_all c (suc k) = alike_behind c c k

pub shape_alike : (n : ℕ) (st : Step) → Alike (shape n st)
unfolding shape
shape_alike n (Sum d ts) = tt
shape_alike n (BranchOn e) = refl
shape_alike n (Apart k) = refl
shape_alike n (AConf k) = tt
shape_alike n SConf = tt
shape_alike n (SProp f x y) = tt
shape_alike n (LIntro x) = tt
shape_alike n (LValid x) = refl
shape_alike n (CCollapse x) = tt
shape_alike n (CValid x) = subst (λ l. Alike (2 ∷ l)) (sym (threes (code_ranges n))) (alike_behind 2 3 (length (code_ranges n)))
shape_alike n (CInj x y) = refl
shape_alike n (Card xs) = alike_all 1 (pair_count (length xs) + last_count (character_count n))
shape_alike n (Join j k) = tt
