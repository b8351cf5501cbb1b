-- What the tree of a text without a fault is like: all that a compiler has to know of it.
use Rattle.std.specs.Prelude.{◌≡◌, ℕ, ◌+◌, ◌^◌, ◌<◌, ◌≤◌, ⊤, Bool, not, if◌then◌else◌, List, [], ◌∷◌, ◌++◌, length, map, All, IsTrue}
use Rattle.std.specs.List.{list_any}
use Rattle.std.specs.Str.{bytes_eq}
use Rattle.kernel_text.specs.Trees.{Declaration, name_of, size_of, Expression, Action, Statements, Kernel}
use Rattle.kernel_text.specs.Trees as tree
use Rattle.kernel_text.specs.Depth.{depth, parts_of, nesting_of}

-- ---- names

abbrev pub is_among : List (List ℕ) → List ℕ → Bool
is_among names name = list_any (bytes_eq name) names

abbrev pub Among : List (List ℕ) → List ℕ → Type 0
Among names name = IsTrue (is_among names name)

abbrev pub Missing : List (List ℕ) → List ℕ → Type 0
Missing names name = IsTrue (not (is_among names name))

abbrev pub names_in : List Declaration → List (List ℕ)
names_in declarations = map name_of declarations

abbrev pub arrays_in : List Declaration → List (List ℕ)
arrays_in [] = []
arrays_in (tree.array name size ∷ rest) = name ∷ arrays_in rest
arrays_in (tree.table name size values ∷ rest) = arrays_in rest

abbrev pub tables_in : List Declaration → List (List ℕ)
tables_in [] = []
tables_in (tree.array name size ∷ rest) = tables_in rest
tables_in (tree.table name size values ∷ rest) = name ∷ tables_in rest

-- ---- variables, in the order in which they were first set

abbrev pub with_variable : List (List ℕ) → List ℕ → List (List ℕ)
with_variable variables x = if is_among variables x then variables else variables ++ x ∷ []

abbrev pub behind_action : List (List ℕ) → Action → List (List ℕ)
behind_action variables (tree.assign x e) = with_variable variables x
behind_action variables (tree.probe a b x index key) = with_variable (with_variable variables a) b
behind_action variables (tree.hist a b x index shift) = with_variable (with_variable variables a) b
behind_action variables (tree.dot first x index a b c d) = with_variable variables first
behind_action variables _ = variables

abbrev pub behind_statements : List (List ℕ) → Statements → List (List ℕ)
behind_statements variables tree.done = variables
behind_statements variables (tree.act first rest) = behind_statements (behind_action variables first) rest
behind_statements variables (tree.repeat x turns body rest) = behind_statements (behind_statements (with_variable variables x) body) rest

-- ---- expressions, over some declarations and over the variables that are set so far

abbrev pub HasNames : List Declaration → List (List ℕ) → Expression → Type 0
HasNames ds variables (tree.num n) = n < 18446744073709551616
HasNames ds variables (tree.named x) = Among variables x
HasNames ds variables (tree.item x index) = Among (names_in ds) x × HasNames ds variables index
HasNames ds variables (tree.group inner) = HasNames ds variables inner
HasNames ds variables (tree.binary o left right) = HasNames ds variables left × HasNames ds variables right

-- an outermost expression
pub record IsRight (ds : List Declaration) (variables : List (List ℕ)) (e : Expression) : Type 0 where
  pub names : HasNames ds variables e
  pub depth : depth e ≤ 4

-- ---- statements

-- a variable may be set here: it is not declared, and no loop around counts it
pub record CanSet (ds : List Declaration) (loops : List (List ℕ)) (x : List ℕ) : Type 0 where
  pub undeclared : Missing (names_in ds) x
  pub free : Missing loops x

-- an action, with the variables that are set so far, its own among them
abbrev pub IsRightAction : List Declaration → List (List ℕ) → List (List ℕ) → Action → Type 0
IsRightAction ds vs loops (tree.assign x e) = CanSet ds loops x × IsRight ds vs e
IsRightAction ds vs loops (tree.store x index e) = Among (arrays_in ds) x × IsRight ds vs index × IsRight ds vs e
IsRightAction ds vs loops (tree.print e) = IsRight ds vs e
IsRightAction ds vs loops (tree.increment x index) = Among (arrays_in ds) x × IsRight ds vs index
IsRightAction ds vs loops (tree.minimum x index e) = Among (arrays_in ds) x × IsRight ds vs index × IsRight ds vs e
IsRightAction ds vs loops (tree.probe a b x index key) =
    CanSet ds loops a × CanSet ds loops b × Among (tables_in ds) x × IsRight ds vs index × IsRight ds vs key
IsRightAction ds vs loops (tree.hist a b x index shift) =
    CanSet ds loops a × CanSet ds loops b × Among (tables_in ds) x × IsRight ds vs index × (shift ≤ 24)
IsRightAction ds vs loops (tree.dot first x index a b c d) =
    CanSet ds loops first × Among (tables_in ds) x × IsRight ds vs index × Among vs a × Among vs b × Among vs c × Among vs d

-- the variables of the loops around stand from the outermost to the innermost
abbrev pub AreRight : List Declaration → List (List ℕ) → List (List ℕ) → Statements → Type 0
AreRight ds vs loops tree.done = ⊤
AreRight ds vs loops (tree.act first rest) = IsRightAction ds (behind_action vs first) loops first × AreRight ds (behind_action vs first) loops rest
AreRight ds vs loops (tree.repeat x turns body rest) =
    CanSet ds loops x × (0 < turns) × (turns ≤ 1000000) × AreRight ds (with_variable vs x) (loops ++ x ∷ []) body
    × AreRight ds (behind_statements (with_variable vs x) body) loops rest

-- ---- declarations

-- no name stands twice
abbrev pub AreDistinctNames : List (List ℕ) → Type 0
AreDistinctNames [] = ⊤
AreDistinctNames (x ∷ rest) = Missing rest x × AreDistinctNames rest

-- a power of two from 8 to 4096
abbrev pub IsSize : ℕ → Type 0
IsSize size = (e : ℕ) × (3 ≤ e) × (e ≤ 12) × (size ≡ 2 ^ e)

abbrev pub IsRightDeclaration : Declaration → Type 0
IsRightDeclaration (tree.table x size values) = IsSize size × (length values ≤ size) × All (λ n. n < 18446744073709551616) values
IsRightDeclaration (tree.array x size) = IsSize size

abbrev pub words_in : List Declaration → ℕ
words_in [] = 0
words_in (d ∷ rest) = size_of d + words_in rest

-- A kernel is sound: its names are declared once, and its variables set before they are read; each name is used as what
-- it is; and sizes, words, variables, depths, brackets and parts keep their limits.
pub record IsSound (k : Kernel) : Type 0 where
  pub names : AreDistinctNames (names_in k.declarations)
  pub declarations : All IsRightDeclaration k.declarations
  pub words : words_in k.declarations ≤ 32768
  pub statements : AreRight k.declarations [] [] k.statements
  pub variables : length (behind_statements [] k.statements) ≤ 8
  pub nesting : nesting_of k.statements ≤ 16
  pub parts : parts_of k.statements ≤ 4000
