-- Each message towards a block that the core wants leaves fewer.
use Rattle.std.proofs.Common.{◌≡◌, ℕ, ◌<◌, ◌≤◌, Bool, true, false, not, List, [], ◌∷◌, length, map, find, Option, Some, None, option_map, refl, sym, ◌∙◌, ap, subst, arith, if◌then◌else◌}
use Rattle.std.specs.Prelude.{◌==◌, ◌&&◌, ◌||◌}
use Rattle.std.specs.List.{list_any}
use Rattle.pei_types.specs.declared.identifiers.Actor.{Actor}
use Rattle.pei_types.specs.declared.identifiers.BlockNo.{BlockNo}
use Rattle.pei_types.specs.declared.identifiers.CoreId.{CoreId}
use Rattle.pei_types.specs.declared.operations.Letter.{Letter}
use Rattle.pei_types.specs.declared.operations.Letter.TheVariants as letter
use Rattle.pei_types.specs.declared.operations.Mark.{Mark}
use Rattle.pei_types.specs.declared.operations.Mark.TheVariants as mark
use Rattle.pei_types.specs.declared.inflight_looks.PeiLook.{PeiLook}
use Rattle.pei_types.specs.declared.events.EventKind.TheVariants as event
use Rattle.pei_types.specs.declared.machines.MachineSpec.{MachineSpec}
use Rattle.pei_types.specs.Blocks.{same_core, l1_set_of, llc_set_of, vault_of}
use Rattle.pei_types.specs.MachineState.{State, Line, LlcLine, next_state, letter_in, mark_in, letter_of, mark_of, is_i, is_ahead, is_owned, is_absent, is_clean, is_dirty, l1_set, llc_set, is_line_of, is_llc_line_of, cores_of, no_other_has, is_sealed, without_l1_line, with_llc_mark, with_llc_line, without_llc_line, after_taking_back, after_invalidating, after_downgrading, after_granting, with_l1_shared}
use Rattle.pei_types.specs.Next.{holder, owner, evict, bring_in, grant_shared, grant_modify, grant, make_room, l1_victim, want, seal_writer, seal_reader}
use Rattle.pei_types.specs.Operation.{is_writer}
use Rattle.pei_types.specs.Recency.{change_at, list_at, without, victim}
use Rattle.pei_types.proofs.Lists.{list_at-change_at_same}
use Rattle.pei_types.proofs.Tests.{same_self}
use Rattle.coherence_laws.specs.Invariants.{Invariants, IsLineOf, IsLlcLineOf}
use Rattle.progress_laws.specs.Distance.{serves, room_left, out_left, fill_left, want_left, line_left, dirt_left, copy_left, seal_left}
use Rattle.progress_laws.proofs.Lists.{list_at-change_here, list_at-change_either, find-without, shorter_found, victim_has, victim_there, no_victim, victim-map, only_core, core_is_0}

-- ---- bounds

room_within : (o : Option Line) → room_left o ≤ 2
room_within (Some line) = omega arith
room_within None = omega arith

out_within : (k : Mark) (o : Option CoreId) → out_left k o ≤ 6
out_within k (Some c) = omega arith
out_within k None = go (is_dirty k)
  where
    go : (t : Bool) → (if t then 5 else 4) ≤ 6
    go true = omega arith
    go false = omega arith

fill_within : (m : MachineSpec) (s : State) (o : Option LlcLine) → fill_left m s o ≤ 6
fill_within m s (Some line) = out_within (mark_of m s line.block) (holder m s line.block)
fill_within m s None = omega arith

either_within : (t : Bool) (x y n : ℕ) → x ≤ n → y ≤ n → (if t then x else y) ≤ n
either_within true x y n h k = h
either_within false x y n h k = k

pub want_within : (m : MachineSpec) (s : State) (c : CoreId) (b : BlockNo) (modify : Bool) → want_left m s c b modify ≤ 6
want_within m s c b modify =
    either_within (serves modify (letter_of m s c b)) 0 _ 6 (omega arith)
    (either_within (is_absent (mark_of m s b)) _ _ 6 (fill_within m s (victim m.llc_ways (llc_set m s b))) (weaker (room_left (l1_victim m s c b)) (room_within (l1_victim m s c b))))
  where
    weaker : (n : ℕ) → n ≤ 2 → n ≤ 6
    weaker n h = omega (arith, h)

-- ---- what is left, as far as the block has come

-- the victim of the last-level cache's set is this block, and no core has it
left_out : (m : MachineSpec) (s : State) (c : CoreId) (b v : BlockNo) (modify : Bool) (n : ℕ) → 4 ≤ n → ((o : Option LlcLine) → victim m.llc_ways (llc_set m s b) ≡ o → fill_left m s o ≤ n) → want_left m s c b modify ≤ n
left_out m s c b v modify n some h =
    either_within (serves modify (letter_of m s c b)) 0 _ n (omega (arith, some))
    (either_within (is_absent (mark_of m s b)) _ _ n (h (victim m.llc_ways (llc_set m s b)) refl) (weaker (room_left (l1_victim m s c b)) (room_within (l1_victim m s c b))))
  where
    weaker : (k : ℕ) → k ≤ 2 → k ≤ n
    weaker k q = omega (arith, q, some)

-- the set has no victim
left_in : (m : MachineSpec) (s : State) (c : CoreId) (b : BlockNo) (modify : Bool) → victim m.llc_ways (llc_set m s b) ≡ None → want_left m s c b modify ≤ 3
left_in m s c b modify h =
    either_within (serves modify (letter_of m s c b)) 0 _ 3 (omega arith)
    (either_within (is_absent (mark_of m s b)) _ _ 3 (subst (λ o. fill_left m s o ≤ 3) (sym h) (omega arith)) (weaker (room_left (l1_victim m s c b)) (room_within (l1_victim m s c b))))
  where
    weaker : (k : ℕ) → k ≤ 2 → k ≤ 3
    weaker k q = omega (arith, q)

-- the block has a line
left_line : (m : MachineSpec) (s : State) (c : CoreId) (b : BlockNo) (modify : Bool) (n : ℕ) → is_absent (mark_of m s b) ≡ false → room_left (l1_victim m s c b) ≤ n → want_left m s c b modify ≤ n
left_line m s c b modify n h k = either_within (serves modify (letter_of m s c b)) 0 _ n (omega arith) (subst (λ t. (if t then fill_left m s (victim m.llc_ways (llc_set m s b)) else room_left (l1_victim m s c b)) ≤ n) (sym h) k)

left_none : (m : MachineSpec) (s : State) (c : CoreId) (b : BlockNo) (modify : Bool) → serves modify (letter_of m s c b) ≡ true → want_left m s c b modify ≡ 0
left_none m s c b modify h = rw h refl

-- ---- the letter and the mark of one block after a message

gone_letter : (m : MachineSpec) (s : State) (c : CoreId) (b : BlockNo) → letter_of m (without_l1_line m s c b) c b ≡ letter.I
gone_letter m s c b =
    ap (λ sets. letter_in (find (is_line_of b) (list_at sets (l1_set_of m b)))) (list_at-change_here s.l1 c.0 (λ sets. change_at sets (l1_set_of m b) (without (is_line_of b))) refl)
    ∙ ap (λ set. letter_in (find (is_line_of b) set)) (list_at-change_here (list_at s.l1 c.0) (l1_set_of m b) (without (is_line_of b)) refl)
    ∙ ap letter_in (find-without (is_line_of b) (l1_set m s c b))

-- no core has a block of which the only core's copy is gone
no_holder : (m : MachineSpec) (s : State) (b : BlockNo) (c : CoreId) → m.cores ≡ 1 → c.0 ≡ 0 → letter_of m s c b ≡ letter.I → holder m s b ≡ None
no_holder m s b c one zeroth h =
    ap (find (λ d. not (is_i (letter_of m s d b)))) (only_core m one)
    ∙ ap (λ l. if not (is_i l) then Some (record { 0 = 0 }) else None) (ap (λ d. letter_of m s d b) (sym (core_is_0 c zeroth)) ∙ h)

no_other : (m : MachineSpec) (s : State) (c : CoreId) (test : CoreId → Bool) → m.cores ≡ 1 → c.0 ≡ 0 → find (λ d. not (same_core d c) && test d) (cores_of m) ≡ None
no_other m s c test one zeroth =
    ap (find (λ d. not (same_core d c) && test d)) (only_core m one)
    ∙ ap (λ t. if not t && test (record { 0 = 0 }) then Some (record { 0 = 0 }) else None) (ap (λ n. 0 == n) zeroth)

abbrev number_of : Option CoreId → ℕ
number_of None = 0
number_of (Some d) = d.0

find_0 : (test : CoreId → Bool) (m : MachineSpec) (c : CoreId) → m.cores ≡ 1 → find test (cores_of m) ≡ Some c → c.0 ≡ 0
find_0 test m c one h = go (test (record { 0 = 0 })) (ap (find test) (sym (only_core m one)) ∙ h)
  where
    go : (t : Bool) → (if t then Some (record { 0 = 0 }) else None) ≡ Some c → c.0 ≡ 0
    go true k = sym (ap number_of k)
    go false k = absurd (cc k)

-- ---- the last-level cache's set after a message

-- each victim of the set is this block
abbrev VictimIs : MachineSpec → State → BlockNo → BlockNo → Type 0
VictimIs m s b v = (line : LlcLine) → victim m.llc_ways (llc_set m s b) ≡ Some line → line.block ≡ v

abbrev with_mark_of : BlockNo → Mark → LlcLine → LlcLine
with_mark_of v k line = if is_llc_line_of v line then record { block = line.block; mark = k } else line

abbrev block_of_it : LlcLine → BlockNo
block_of_it x = x.block

abbrev block_in : Option LlcLine → BlockNo → BlockNo
block_in None b = b
block_in (Some x) b = x.block

same_block_marked : (v : BlockNo) (k : Mark) (line : LlcLine) → (with_mark_of v k line).block ≡ line.block
same_block_marked v k line = go (is_llc_line_of v line)
  where
    go : (t : Bool) → block_of_it (if t then record { block = line.block; mark = k } else line) ≡ line.block
    go true = refl
    go false = refl

-- a new mark leaves the victims
marked_victim : (m : MachineSpec) (s : State) (w : BlockNo) (k : Mark) (b v : BlockNo) → VictimIs m s b v → VictimIs m (with_llc_mark m s w k) b v
marked_victim m s w k b v h =
    list_at-change_either (λ set. (line : LlcLine) → victim m.llc_ways set ≡ Some line → line.block ≡ v) (map (with_mark_of w k)) s.llc (llc_set_of m w) (llc_set_of m b)
    (λ set q line e. go set (victim m.llc_ways set) refl q line (sym (victim-map m.llc_ways (with_mark_of w k) set) ∙ e))
    h
  where
    go : (set : List LlcLine) (o : Option LlcLine) → victim m.llc_ways set ≡ o → ((line : LlcLine) → victim m.llc_ways set ≡ Some line → line.block ≡ v) → (line : LlcLine) → option_map (with_mark_of w k) o ≡ Some line → line.block ≡ v
    go set None e q line g = absurd (cc g)
    go set (Some x) e q line g = sym (ap (λ o. block_in o v) g) ∙ same_block_marked w k x ∙ q x e

taken_victim : (m : MachineSpec) (s : State) (w : BlockNo) (l : Letter) (b v : BlockNo) → VictimIs m s b v → VictimIs m (after_taking_back m s w l) b v
taken_victim m s w l b v h = go (is_ahead l)
  where
    go : (t : Bool) → VictimIs m (if t then with_llc_mark m s w mark.Dirty else s) b v
    go true = marked_victim m s w mark.Dirty b v h
    go false = h

-- the mark of a block after a new mark
marked_in : (k : Mark) (v : BlockNo) (set : List LlcLine) → mark_in (find (is_llc_line_of v) (map (with_mark_of v k) set)) ≡ (if list_any (is_llc_line_of v) set then k else mark.Absent)
marked_in k v [] = refl
marked_in k v (line ∷ set) = go (is_llc_line_of v line) refl (marked_in k v set)
  where
    go : (t : Bool) → is_llc_line_of v line ≡ t → mark_in (find (is_llc_line_of v) (map (with_mark_of v k) set)) ≡ (if list_any (is_llc_line_of v) set then k else mark.Absent) → mark_in (find (is_llc_line_of v) ((if t then record { block = line.block; mark = k } else line) ∷ map (with_mark_of v k) set)) ≡ (if t || list_any (is_llc_line_of v) set then k else mark.Absent)
    go true e ih = rw e refl
    go false e ih = rw e ih

marked_mark : (m : MachineSpec) (s : State) (v : BlockNo) (k : Mark) → mark_of m (with_llc_mark m s v k) v ≡ (if list_any (is_llc_line_of v) (llc_set m s v) then k else mark.Absent)
marked_mark m s v k = ap (λ set. mark_in (find (is_llc_line_of v) set)) (list_at-change_here s.llc (llc_set_of m v) (map (with_mark_of v k)) refl) ∙ marked_in k v (llc_set m s v)

cleaned : (m : MachineSpec) (s : State) (v : BlockNo) → is_dirty (mark_of m (with_llc_mark m s v mark.Clean) v) ≡ false
cleaned m s v = ap is_dirty (marked_mark m s v mark.Clean) ∙ go (list_any (is_llc_line_of v) (llc_set m s v))
  where
    go : (t : Bool) → is_dirty (if t then mark.Clean else mark.Absent) ≡ false
    go true = refl
    go false = refl

-- a block that has a line keeps it, under whatever mark
abbrev HasLine : BlockNo → List LlcLine → Type 0
HasLine b set = is_absent (mark_in (find (is_llc_line_of b) set)) ≡ false

line_kept_in : (b w : BlockNo) (k : Mark) → is_absent k ≡ false → (set : List LlcLine) → HasLine b set → HasLine b (map (with_mark_of w k) set)
line_kept_in b w k there [] h = h
line_kept_in b w k there (line ∷ set) h = go (is_llc_line_of w line) (is_llc_line_of b line) refl refl h (λ q. line_kept_in b w k there set q)
  where
    go : (t u : Bool) → is_llc_line_of w line ≡ t → is_llc_line_of b line ≡ u → is_absent (mark_in (if u then Some line else find (is_llc_line_of b) set)) ≡ false → (HasLine b set → HasLine b (map (with_mark_of w k) set)) → is_absent (mark_in (find (is_llc_line_of b) ((if t then record { block = line.block; mark = k } else line) ∷ map (with_mark_of w k) set))) ≡ false
    go true true e f g ih = rw f there
    go false true e f g ih = rw f g
    go true false e f g ih = rw f (ih g)
    go false false e f g ih = rw f (ih g)

line_kept : (m : MachineSpec) (s : State) (w : BlockNo) (k : Mark) (b : BlockNo) → is_absent k ≡ false → is_absent (mark_of m s b) ≡ false → is_absent (mark_of m (with_llc_mark m s w k) b) ≡ false
line_kept m s w k b there h = list_at-change_either (HasLine b) (map (with_mark_of w k)) s.llc (llc_set_of m w) (llc_set_of m b) (λ set q. line_kept_in b w k there set q) h

line_taken : (m : MachineSpec) (s : State) (w : BlockNo) (l : Letter) (b : BlockNo) → is_absent (mark_of m s b) ≡ false → is_absent (mark_of m (after_taking_back m s w l) b) ≡ false
line_taken m s w l b h = go (is_ahead l)
  where
    go : (t : Bool) → is_absent (mark_of m (if t then with_llc_mark m s w mark.Dirty else s) b) ≡ false
    go true = line_kept m s w mark.Dirty b refl h
    go false = h

-- ---- a block out of the last-level cache

fill_out : (m : MachineSpec) (t : State) (b v : BlockNo) (n : ℕ) → 3 ≤ n → VictimIs m t b v → out_left (mark_of m t v) (holder m t v) ≤ n → (o : Option LlcLine) → victim m.llc_ways (llc_set m t b) ≡ o → fill_left m t o ≤ n
fill_out m t b v n some h k None e = some
fill_out m t b v n some h k (Some line) e = subst (λ w. out_left (mark_of m t w) (holder m t w) ≤ n) (sym (h line e)) k

out_at_5 : (k : Mark) → out_left k None ≤ 5
out_at_5 k = either_within (is_dirty k) 5 4 5 (omega arith) (omega arith)

-- the only core's copy goes
invalidate_falls : (m : MachineSpec) (s : State) (c : CoreId) (b v : BlockNo) (modify : Bool) → m.cores ≡ 1 → c.0 ≡ 0 → VictimIs m s b v → want_left m (after_invalidating m s c v) c b modify ≤ 5
invalidate_falls m s c b v modify one zeroth h =
    let t : State = after_invalidating m s c v
    in let alone : holder m t v ≡ None = no_holder m t v c one zeroth (gone_letter m (after_taking_back m s v (letter_of m s c v)) c v)
    in left_out m t c b v modify 5 (omega arith)
    (fill_out m t b v 5 (omega arith) (taken_victim m s v (letter_of m s c v) b v h) (subst (λ o. out_left (mark_of m t v) o ≤ 5) (sym alone) (out_at_5 (mark_of m t v))))

-- the line is written back
clean_falls : (m : MachineSpec) (s : State) (c : CoreId) (b v : BlockNo) (modify : Bool) → VictimIs m s b v → holder m s v ≡ None → want_left m (with_llc_mark m s v mark.Clean) c b modify ≤ 4
clean_falls m s c b v modify h alone =
    let t : State = with_llc_mark m s v mark.Clean
    in left_out m t c b v modify 4 (omega arith)
    (fill_out m t b v 4 (omega arith) (marked_victim m s v mark.Clean b v h) (subst (λ o. out_left (mark_of m t v) o ≤ 4) (sym alone) (at_4 (is_dirty (mark_of m t v)) (cleaned m s v))))
  where
    at_4 : (t : Bool) → t ≡ false → (if t then 5 else 4) ≤ 4
    at_4 true e = absurd (cc e)
    at_4 false e = omega arith

-- the line goes
evict_falls : (m : MachineSpec) (s : State) (c : CoreId) (b v : BlockNo) (modify : Bool) → llc_set_of m v ≡ llc_set_of m b → list_any (is_llc_line_of v) (llc_set m s b) ≡ true → length (llc_set m s b) ≤ m.llc_ways → want_left m (without_llc_line m s v) c b modify ≤ 3
evict_falls m s c b v modify same there within =
    left_in m (without_llc_line m s v) c b modify
    (ap (λ i. victim m.llc_ways (list_at (change_at s.llc i (without (is_llc_line_of v))) (llc_set_of m b))) same
    ∙ ap (victim m.llc_ways) (list_at-change_here s.llc (llc_set_of m b) (without (is_llc_line_of v)) refl)
    ∙ no_victim m.llc_ways (without (is_llc_line_of v) (llc_set m s b)) (let less = shorter_found (is_llc_line_of v) (llc_set m s b) there in omega (arith, less, within)))

-- ---- a block into the last-level cache, and to the core

fill_falls : (m : MachineSpec) (s : State) (c : CoreId) (b : BlockNo) (modify : Bool) → Invariants m s → want_left m (with_llc_line m s b) c b modify ≤ 2
fill_falls m s c b modify h =
    left_line m (with_llc_line m s b) c b modify 2
    (ap (λ set. is_absent (mark_in (find (is_llc_line_of b) set))) (list_at-change_at_same s.llc (llc_set_of m b) (λ set. record { block = b; mark = mark.Clean } ∷ set) (omega (arith, h.sizes.llc_sets, m.llc_sets_in_limits)))
    ∙ ap (λ t. is_absent (mark_in (if t then Some (record { block = b; mark = mark.Clean }) else find (is_llc_line_of b) (llc_set m s b)))) (same_self b.0))
    (room_within (l1_victim m (with_llc_line m s b) c b))

abbrev lines_of : State → List (List (List Line))
lines_of x = x.l1

-- room is made in the private cache
room_falls : (m : MachineSpec) (s : State) (c : CoreId) (b u : BlockNo) (modify : Bool) → l1_set_of m u ≡ l1_set_of m b → list_any (is_line_of u) (l1_set m s c b) ≡ true → length (l1_set m s c b) ≤ m.l1_ways → is_absent (mark_of m s b) ≡ false → want_left m (after_invalidating m s c u) c b modify ≤ 1
room_falls m s c b u modify same there within line =
    let t : State = after_invalidating m s c u
    in let room : victim m.l1_ways (l1_set m t c b) ≡ None =
    ap (victim m.l1_ways)
    (ap (λ sets. list_at sets (l1_set_of m b)) (l1_here m s c u)
    ∙ ap (λ i. list_at (change_at (list_at s.l1 c.0) i (without (is_line_of u))) (l1_set_of m b)) same
    ∙ list_at-change_here (list_at s.l1 c.0) (l1_set_of m b) (without (is_line_of u)) refl)
    ∙ no_victim m.l1_ways (without (is_line_of u) (l1_set m s c b)) (let less = shorter_found (is_line_of u) (l1_set m s c b) there in omega (arith, less, within))
    in left_line m t c b modify 1 (line_taken m s u (letter_of m s c u) b line) (none_left (is_i (letter_of m t c b)) room)
  where
    l1_of_taken : (m' : MachineSpec) (s' : State) (w : BlockNo) (l : Letter) → (after_taking_back m' s' w l).l1 ≡ s'.l1
    l1_of_taken m' s' w l = go (is_ahead l)
      where
        go : (t : Bool) → lines_of (if t then with_llc_mark m' s' w mark.Dirty else s') ≡ s'.l1
        go true = refl
        go false = refl

    l1_here : (m' : MachineSpec) (s' : State) (d : CoreId) (w : BlockNo) → list_at (after_invalidating m' s' d w).l1 d.0 ≡ change_at (list_at s'.l1 d.0) (l1_set_of m' w) (without (is_line_of w))
    l1_here m' s' d w =
        list_at-change_here (after_taking_back m' s' w (letter_of m' s' d w)).l1 d.0 (λ sets. change_at sets (l1_set_of m' w) (without (is_line_of w))) refl
        ∙ ap (λ l1. change_at (list_at l1 d.0) (l1_set_of m' w) (without (is_line_of w))) (l1_of_taken m' s' w (letter_of m' s' d w))

    none_left : (t : Bool) → victim m.l1_ways (l1_set m (after_invalidating m s c u) c b) ≡ None → room_left (if t then victim m.l1_ways (l1_set m (after_invalidating m s c u) c b) else None) ≤ 1
    none_left true e = subst (λ o. room_left o ≤ 1) (sym e) (omega arith)
    none_left false e = omega arith

-- the grant
granted_letter : (m : MachineSpec) (s : State) (c : CoreId) (b : BlockNo) (l : Letter) → Invariants m s → c.0 < m.cores → letter_of m (after_granting m s c b l) c b ≡ l
granted_letter m s c b l h k =
    ap (λ sets. letter_in (find (is_line_of b) (list_at sets (l1_set_of m b)))) (list_at-change_at_same s.l1 c.0 (λ sets. change_at sets (l1_set_of m b) (λ set. record { block = b; letter = l } ∷ without (is_line_of b) set)) (omega (arith, h.sizes.cores, k)))
    ∙ ap (λ set. letter_in (find (is_line_of b) set)) (list_at-change_at_same (list_at s.l1 c.0) (l1_set_of m b) (λ set. record { block = b; letter = l } ∷ without (is_line_of b) set) (omega (arith, h.sizes.l1_sets c.0 k, m.l1_sets_in_limits)))
    ∙ ap (λ t. letter_in (if t then Some (record { block = b; letter = l }) else find (is_line_of b) (without (is_line_of b) (l1_set m s c b)))) (same_self b.0)

grant_falls : (m : MachineSpec) (s : State) (a : Actor) (b : BlockNo) (modify : Bool) → m.cores ≡ 1 → a.core.0 ≡ 0 → Invariants m s → want_left m (next_state m s a (grant m s a.core b modify)) a.core b modify ≤ 0
grant_falls m s a b true one zeroth h =
    subst (λ o. want_left m (next_state m s a (grant_modify b o)) a.core b true ≤ 0) (sym (no_other m s a.core (λ d. not (is_i (letter_of m s d b))) one zeroth))
    (none (left_none m (after_granting m s a.core b letter.M) a.core b true (ap is_owned (granted_letter m s a.core b letter.M h (omega (arith, one, zeroth))))))
  where
    none : {n : ℕ} → n ≡ 0 → n ≤ 0
    none e = omega (arith, e)
grant_falls m s a b false one zeroth h =
    subst (λ o. want_left m (next_state m s a (grant_shared m s a.core b o)) a.core b false ≤ 0) (sym (no_other m s a.core (λ d. is_owned (letter_of m s d b)) one zeroth))
    (go (not (no_other_has m s a.core b) || is_sealed s b))
  where
    none : {n : ℕ} → n ≡ 0 → n ≤ 0
    none e = omega (arith, e)

    by : (l : Letter) → not (is_i l) ≡ true → want_left m (after_granting m s a.core b l) a.core b false ≤ 0
    by l e = none (left_none m (after_granting m s a.core b l) a.core b false (ap (λ x. not (is_i x)) (granted_letter m s a.core b l h (omega (arith, one, zeroth))) ∙ e))

    go : (t : Bool) → want_left m (next_state m s a (if t then event.GrantS b else event.GrantE b)) a.core b false ≤ 0
    go true = by letter.S refl
    go false = by letter.E refl

-- ---- every message

holder_falls : (m : MachineSpec) (s : State) (a : Actor) (b v : BlockNo) (modify : Bool) (o : Option CoreId) → m.cores ≡ 1 → a.core.0 ≡ 0 → VictimIs m s b v → llc_set_of m v ≡ llc_set_of m b → list_any (is_llc_line_of v) (llc_set m s b) ≡ true → length (llc_set m s b) ≤ m.llc_ways → holder m s v ≡ o → want_left m (next_state m s a (evict m s v o)) a.core b modify < out_left (mark_of m s v) o
holder_falls m s a b v modify (Some c) one zeroth h same there within e =
    let is_0 : c.0 ≡ 0 = find_0 (λ d. not (is_i (letter_of m s d v))) m c one e
    in let same_core' : c ≡ a.core = core_is_0 c is_0 ∙ sym (core_is_0 a.core zeroth)
    in at_most (invalidate_falls m s c b v modify one is_0 h) (ap (λ d. want_left m (after_invalidating m s c v) d b modify) same_core')
  where
    at_most : {x y : ℕ} → x ≤ 5 → x ≡ y → y < 6
    at_most p q = omega (arith, p, q)
holder_falls m s a b v modify None one zeroth h same there within e = go (is_dirty (mark_of m s v))
  where
    go : (t : Bool) → want_left m (next_state m s a (if t then event.Clean v else event.EvictLlc v)) a.core b modify < (if t then 5 else 4)
    go true = let k = clean_falls m s a.core b v modify h e in omega (arith, k)
    go false = let k = evict_falls m s a.core b v modify same there within in omega (arith, k)

victim_is : (m : MachineSpec) (s : State) (b : BlockNo) (line : LlcLine) → victim m.llc_ways (llc_set m s b) ≡ Some line → VictimIs m s b line.block
victim_is m s b line e x k = ap (λ o. block_in o b) (sym k ∙ e)

bring_falls : (m : MachineSpec) (s : State) (a : Actor) (b : BlockNo) (modify : Bool) (o : Option LlcLine) → m.cores ≡ 1 → a.core.0 ≡ 0 → Invariants m s → victim m.llc_ways (llc_set m s b) ≡ o → want_left m (next_state m s a (bring_in m s b o)) a.core b modify < fill_left m s o
bring_falls m s a b modify (Some line) one zeroth h e =
    let set = h.sets.llc (llc_set_of m b)
    in holder_falls m s a b line.block modify (holder m s line.block) one zeroth (victim_is m s b line e)
    (victim_has (IsLlcLineOf m (llc_set_of m b)) m.llc_ways (llc_set m s b) line set.each e).0
    (victim_there (is_llc_line_of line.block) m.llc_ways (llc_set m s b) line (same_self line.block.0) e)
    set.within refl
bring_falls m s a b modify None one zeroth h e = let k = fill_falls m s a.core b modify h in omega (arith, k)

l1_victim_is : (m : MachineSpec) (s : State) (c : CoreId) (b : BlockNo) (line : Line) → l1_victim m s c b ≡ Some line → victim m.l1_ways (l1_set m s c b) ≡ Some line
l1_victim_is m s c b line h = go (is_i (letter_of m s c b)) h
  where
    go : (t : Bool) → (if t then victim m.l1_ways (l1_set m s c b) else None) ≡ Some line → victim m.l1_ways (l1_set m s c b) ≡ Some line
    go true k = k
    go false k = absurd (cc k)

make_room_falls : (m : MachineSpec) (s : State) (a : Actor) (b : BlockNo) (modify : Bool) (o : Option Line) → m.cores ≡ 1 → a.core.0 ≡ 0 → Invariants m s → is_absent (mark_of m s b) ≡ false → l1_victim m s a.core b ≡ o → want_left m (next_state m s a (make_room m s a.core b modify o)) a.core b modify < room_left o
make_room_falls m s a b modify (Some line) one zeroth h there e =
    let set = h.sets.l1 a.core.0 (l1_set_of m b)
    in let v = l1_victim_is m s a.core b line e
    in let k =
    room_falls m s a.core b line.block modify (victim_has (IsLineOf m (l1_set_of m b)) m.l1_ways (l1_set m s a.core b) line set.each v).0
    (victim_there (is_line_of line.block) m.l1_ways (l1_set m s a.core b) line (same_self line.block.0) v) set.within there
    in omega (arith, k)
make_room_falls m s a b modify None one zeroth h there e = let k = grant_falls m s a b modify one zeroth h in omega (arith, k)

pub want_falls : (m : MachineSpec) (s : State) (a : Actor) (b : BlockNo) (modify : Bool) → m.cores ≡ 1 → a.core.0 ≡ 0 → Invariants m s → serves modify (letter_of m s a.core b) ≡ false → want_left m (next_state m s a (want m s a.core b modify)) a.core b modify < want_left m s a.core b modify
want_falls m s a b modify one zeroth h not_served =
    subst (λ t. want_left m (next_state m s a (want m s a.core b modify)) a.core b modify < (if t then 0 else if is_absent (mark_of m s b) then fill_left m s (victim m.llc_ways (llc_set m s b)) else room_left (l1_victim m s a.core b))) (sym not_served)
    (go (is_absent (mark_of m s b)) refl)
  where
    go : (t : Bool) → is_absent (mark_of m s b) ≡ t → want_left m (next_state m s a (if t then bring_in m s b (victim m.llc_ways (llc_set m s b)) else make_room m s a.core b modify (l1_victim m s a.core b))) a.core b modify < (if t then fill_left m s (victim m.llc_ways (llc_set m s b)) else room_left (l1_victim m s a.core b))
    go true e = bring_falls m s a b modify (victim m.llc_ways (llc_set m s b)) one zeroth h refl
    go false e = make_room_falls m s a b modify (l1_victim m s a.core b) one zeroth h e refl

-- ---- before memory executes a PEI

line_within : (k : Mark) → line_left k ≤ 2
line_within k = either_within (is_dirty k) 2 _ 2 (omega arith) (either_within (is_clean k) 1 0 2 (omega arith) (omega arith))

dirt_within : (k : Mark) → dirt_left k ≤ 1
dirt_within k = either_within (is_dirty k) 1 0 1 (omega arith) (omega arith)

copy_within : (first rest n : ℕ) (o : Option CoreId) → first ≤ n → rest ≤ n → copy_left first rest o ≤ n
copy_within first rest n (Some c) h k = h
copy_within first rest n None h k = k

pub seal_within : (m : MachineSpec) (s : State) (p : PeiLook) → seal_left m s p ≤ 3
seal_within m s p =
    either_within (is_writer p.op) _ _ 3
    (copy_within 3 (line_left (mark_of m s p.block)) 3 (holder m s p.block) (omega arith) (let k = line_within (mark_of m s p.block) in omega (arith, k)))
    (copy_within 2 (dirt_left (mark_of m s p.block)) 3 (owner m s p.block) (omega arith) (let k = dirt_within (mark_of m s p.block) in omega (arith, k)))

gone_mark : (m : MachineSpec) (s : State) (b : BlockNo) → mark_of m (without_llc_line m s b) b ≡ mark.Absent
gone_mark m s b =
    ap (λ set. mark_in (find (is_llc_line_of b) set)) (list_at-change_here s.llc (llc_set_of m b) (without (is_llc_line_of b)) refl)
    ∙ ap mark_in (find-without (is_llc_line_of b) (llc_set m s b))

cleaned_line : (m : MachineSpec) (s : State) (b : BlockNo) → line_left (mark_of m (with_llc_mark m s b mark.Clean) b) ≤ 1
cleaned_line m s b = subst (λ k. line_left k ≤ 1) (sym (marked_mark m s b mark.Clean)) (go (list_any (is_llc_line_of b) (llc_set m s b)))
  where
    go : (t : Bool) → line_left (if t then mark.Clean else mark.Absent) ≤ 1
    go true = omega arith
    go false = omega arith

-- for a writer
abbrev writer_left : MachineSpec → State → BlockNo → ℕ
writer_left m s b = copy_left 3 (line_left (mark_of m s b)) (holder m s b)

writer_by : (m : MachineSpec) (s : State) (a : Actor) (p : PeiLook) (o : Option CoreId) → m.cores ≡ 1 → holder m s p.block ≡ o → 0 < copy_left 3 (line_left (mark_of m s p.block)) o → writer_left m (next_state m s a (seal_writer m s p o)) p.block < copy_left 3 (line_left (mark_of m s p.block)) o
writer_by m s a p (Some c) one e some =
    let t : State = after_invalidating m s c p.block
    in let alone : holder m t p.block ≡ None = no_holder m t p.block c one (find_0 (λ d. not (is_i (letter_of m s d p.block))) m c one e) (gone_letter m (after_taking_back m s p.block (letter_of m s c p.block)) c p.block)
    in subst (λ x. copy_left 3 (line_left (mark_of m t p.block)) x < 3) (sym alone) (let k = line_within (mark_of m t p.block) in omega (arith, k))
writer_by m s a p None one e some = go (is_dirty (mark_of m s p.block)) (is_clean (mark_of m s p.block)) some
  where
    go : (t u : Bool) → 0 < (if t then 2 else if u then 1 else 0) → writer_left m (next_state m s a (if t then event.Clean p.block else if u then event.EvictLlc p.block else event.Seal p.id.seq (vault_of m p.block))) p.block < (if t then 2 else if u then 1 else 0)
    go true u h = subst (λ x. copy_left 3 (line_left (mark_of m (with_llc_mark m s p.block mark.Clean) p.block)) x < 2) (sym e) (let k = cleaned_line m s p.block in omega (arith, k))
    go false true h = subst (λ x. copy_left 3 (line_left (mark_of m (without_llc_line m s p.block) p.block)) x < 1) (sym e) (subst (λ k. line_left k < 1) (sym (gone_mark m s p.block)) (omega arith))
    go false false h = absurd (omega (arith, h))

pub writer_falls : (m : MachineSpec) (s : State) (a : Actor) (p : PeiLook) → m.cores ≡ 1 → Invariants m s → is_writer p.op ≡ true → 0 < seal_left m s p → seal_left m (next_state m s a (seal_writer m s p (holder m s p.block))) p < seal_left m s p
writer_falls m s a p one h w some = go (is_writer p.op) w some
  where
    go : (b : Bool) → b ≡ true → 0 < (if b then writer_left m s p.block else copy_left 2 (dirt_left (mark_of m s p.block)) (owner m s p.block)) → (if b then writer_left m (next_state m s a (seal_writer m s p (holder m s p.block))) p.block else copy_left 2 (dirt_left (mark_of m (next_state m s a (seal_writer m s p (holder m s p.block))) p.block)) (owner m (next_state m s a (seal_writer m s p (holder m s p.block))) p.block)) < (if b then writer_left m s p.block else copy_left 2 (dirt_left (mark_of m s p.block)) (owner m s p.block))
    go true e k = writer_by m s a p (holder m s p.block) one refl k
    go false e k = absurd (cc e)

-- for a reader
abbrev share : BlockNo → Line → Line
share b line = if is_line_of b line then record { block = line.block; letter = letter.S } else line

shared_in : (b : BlockNo) (set : List Line) → is_owned (letter_in (find (is_line_of b) (map (share b) set))) ≡ false
shared_in b [] = refl
shared_in b (line ∷ set) = go (is_line_of b line) refl (shared_in b set)
  where
    go : (t : Bool) → is_line_of b line ≡ t → is_owned (letter_in (find (is_line_of b) (map (share b) set))) ≡ false → is_owned (letter_in (find (is_line_of b) ((if t then record { block = line.block; letter = letter.S } else line) ∷ map (share b) set))) ≡ false
    go true e ih = rw e refl
    go false e ih = rw e ih

shared_letter : (m : MachineSpec) (s : State) (c : CoreId) (b : BlockNo) → is_owned (letter_of m (with_l1_shared m s c b) c b) ≡ false
shared_letter m s c b =
    ap (λ sets. is_owned (letter_in (find (is_line_of b) (list_at sets (l1_set_of m b))))) (list_at-change_here s.l1 c.0 (λ sets. change_at sets (l1_set_of m b) (map (share b))) refl)
    ∙ ap (λ set. is_owned (letter_in (find (is_line_of b) set))) (list_at-change_here (list_at s.l1 c.0) (l1_set_of m b) (map (share b)) refl)
    ∙ shared_in b (l1_set m s c b)

no_owner : (m : MachineSpec) (s : State) (b : BlockNo) (c : CoreId) → m.cores ≡ 1 → c.0 ≡ 0 → is_owned (letter_of m s c b) ≡ false → owner m s b ≡ None
no_owner m s b c one zeroth h =
    ap (find (λ d. is_owned (letter_of m s d b))) (only_core m one)
    ∙ ap (λ t. if t then Some (record { 0 = 0 }) else None) (ap (λ d. is_owned (letter_of m s d b)) (sym (core_is_0 c zeroth)) ∙ h)

abbrev reader_left : MachineSpec → State → BlockNo → ℕ
reader_left m s b = copy_left 2 (dirt_left (mark_of m s b)) (owner m s b)

reader_by : (m : MachineSpec) (s : State) (a : Actor) (p : PeiLook) (o : Option CoreId) → m.cores ≡ 1 → owner m s p.block ≡ o → 0 < copy_left 2 (dirt_left (mark_of m s p.block)) o → reader_left m (next_state m s a (seal_reader m s p o)) p.block < copy_left 2 (dirt_left (mark_of m s p.block)) o
reader_by m s a p (Some c) one e some =
    let t : State = after_downgrading m s c p.block
    in let alone : owner m t p.block ≡ None = no_owner m t p.block c one (find_0 (λ d. is_owned (letter_of m s d p.block)) m c one e) (shared_letter m (after_taking_back m s p.block (letter_of m s c p.block)) c p.block)
    in subst (λ x. copy_left 2 (dirt_left (mark_of m t p.block)) x < 2) (sym alone) (let k = dirt_within (mark_of m t p.block) in omega (arith, k))
reader_by m s a p None one e some = go (is_dirty (mark_of m s p.block)) some
  where
    go : (t : Bool) → 0 < (if t then 1 else 0) → reader_left m (next_state m s a (if t then event.Clean p.block else event.Seal p.id.seq (vault_of m p.block))) p.block < (if t then 1 else 0)
    go true h = subst (λ x. copy_left 2 (dirt_left (mark_of m (with_llc_mark m s p.block mark.Clean) p.block)) x < 1) (sym e) (subst (λ t. (if t then 1 else 0) < 1) (sym (cleaned m s p.block)) (omega arith))
    go false h = absurd (omega (arith, h))

pub reader_falls : (m : MachineSpec) (s : State) (a : Actor) (p : PeiLook) → m.cores ≡ 1 → Invariants m s → is_writer p.op ≡ false → 0 < seal_left m s p → seal_left m (next_state m s a (seal_reader m s p (owner m s p.block))) p < seal_left m s p
reader_falls m s a p one h w some = go (is_writer p.op) w some
  where
    go : (b : Bool) → b ≡ false → 0 < (if b then writer_left m s p.block else reader_left m s p.block) → (if b then writer_left m (next_state m s a (seal_reader m s p (owner m s p.block))) p.block else reader_left m (next_state m s a (seal_reader m s p (owner m s p.block))) p.block) < (if b then writer_left m s p.block else reader_left m s p.block)
    go true e k = absurd (cc e)
    go false e k = reader_by m s a p (owner m s p.block) one refl k
