-- The expressions of right statements are shallow.
use Rattle.std.proofs.Common.{ℕ, List, [], ◌∷◌, ◌++◌}
use Rattle.kernel_text.specs.Sound.{AreRight, IsRightAction, behind_action, behind_statements, with_variable}
use Rattle.kernel_text.specs.Trees.{Declaration, Action, Statements, assign, store, print, increment, minimum, probe, hist, dot, done, act, repeat}
use Rattle.kernel_lang.specs.Emitted.{AreShallow, IsShallowAction}

shallow_action : (ds : List Declaration) (vs loops : List (List ℕ)) (a : Action) → IsRightAction ds vs loops a → IsShallowAction a
shallow_action ds vs loops (assign name e) right = right.1.depth
shallow_action ds vs loops (store name index e) right = (right.1.depth, right.2.depth)
shallow_action ds vs loops (print e) right = right.depth
shallow_action ds vs loops (increment name index) right = right.1.depth
shallow_action ds vs loops (minimum name index e) right = (right.1.depth, right.2.depth)
shallow_action ds vs loops (probe first second name index key) right = (right.3.depth, right.4.depth)
shallow_action ds vs loops (hist first second name index shift) right = right.3.depth
shallow_action ds vs loops (dot first name index a b c d) right = right.2.depth

pub shallow : (ds : List Declaration) (vs loops : List (List ℕ)) (s : Statements) → AreRight ds vs loops s → AreShallow s
shallow ds vs loops done right = tt
shallow ds vs loops (act first rest) right =
    (shallow_action ds (behind_action vs first) loops first right.0, shallow ds (behind_action vs first) loops rest right.1)
shallow ds vs loops (repeat name turns body rest) right =
    (shallow ds (with_variable vs name) (loops ++ name ∷ []) body right.3, shallow ds (behind_statements (with_variable vs name) body) loops rest right.4)
