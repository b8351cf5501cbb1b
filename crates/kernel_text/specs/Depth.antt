-- The depth, the parts and the brackets of expressions and statements.
use Rattle.std.specs.Prelude.{ℕ, ◌+◌, max}
use Rattle.kernel_text.specs.Trees.{Expression, num, named, item, group, binary, Action, assign, store, print, increment, minimum, probe, hist, dot, Statements, done, act, repeat}

-- A term that is a number or a name has depth 1, an index or parenthesis that of its expression, and an expression the
-- greatest of its first term's depth and one more than each other term's.
abbrev pub depth : Expression → ℕ
depth (num value) = 1
depth (named name) = 1
depth (item name index) = depth index
depth (group inner) = depth inner
depth (binary o left right) = max (depth left) (depth right + 1)

-- ---- how many statements, operators and terms there are

abbrev pub parts : Expression → ℕ
parts (num value) = 1
parts (named name) = 1
parts (item name index) = 1 + parts index
parts (group inner) = 1 + parts inner
parts (binary o left right) = parts left + 1 + parts right

abbrev pub parts_of_action : Action → ℕ
parts_of_action (assign name value) = 1 + parts value
parts_of_action (store name index value) = 1 + parts index + parts value
parts_of_action (print value) = 1 + parts value
parts_of_action (increment name index) = 1 + parts index
parts_of_action (minimum name index value) = 1 + parts index + parts value
parts_of_action (probe first second name index key) = 1 + parts index + parts key
parts_of_action (hist first second name index shift) = 1 + parts index
parts_of_action (dot first name index a b c d) = 1 + parts index

abbrev pub parts_of : Statements → ℕ
parts_of done = 0
parts_of (act first rest) = parts_of_action first + parts_of rest
parts_of (repeat name turns body rest) = 1 + parts_of body + parts_of rest

-- ---- how many brackets of any kind stand in one another

abbrev pub nesting : Expression → ℕ
nesting (num value) = 0
nesting (named name) = 0
nesting (item name index) = 1 + nesting index
nesting (group inner) = 1 + nesting inner
nesting (binary o left right) = max (nesting left) (nesting right)

abbrev pub nesting_of_action : Action → ℕ
nesting_of_action (assign name value) = nesting value
nesting_of_action (store name index value) = max (1 + nesting index) (nesting value)
nesting_of_action (print value) = nesting value
nesting_of_action (increment name index) = 1 + nesting index
nesting_of_action (minimum name index value) = max (1 + nesting index) (nesting value)
nesting_of_action (probe first second name index key) = max (1 + nesting index) (nesting key)
nesting_of_action (hist first second name index shift) = 1 + nesting index
nesting_of_action (dot first name index a b c d) = 1 + nesting index

abbrev pub nesting_of : Statements → ℕ
nesting_of done = 0
nesting_of (act first rest) = max (nesting_of_action first) (nesting_of rest)
nesting_of (repeat name turns body rest) = max (1 + nesting_of body) (nesting_of rest)
