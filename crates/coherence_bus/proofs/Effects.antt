-- What the calls of the caches make of what is held.
use Rattle.std.proofs.Common.{◌≡◌, ℕ, zero, suc, ◌%◌, ◌<◌, Bool, true, false, List, [], ◌∷◌, length, map, refl, sym, subst, ap, ◌∙◌, arith, get_or, Option, Some, None, find}
use Rattle.std.specs.Prelude.{◌==◌, if◌then◌else◌, not, filter, slice_set}
use Rattle.std.specs.List.{AllByRecursion}
use Rattle.std.proofs.Math.Path.{fun_ext}
use Rattle.std.proofs.lemmas.List.{get_or-set_other}
use Rattle.std.proofs.lemmas.Grind.{get_or-set_at}
use Rattle.std.proofs.lemmas.Bool.{eqb-true, eqb-false}
use Rattle.pei_types.specs.declared.identifiers.Block.{Block}
use Rattle.pei_types.specs.declared.identifiers.BlockNo.{BlockNo}
use Rattle.pei_types.specs.declared.identifiers.CoreId.{CoreId}
use Rattle.pei_types.specs.declared.lines.CopyLine.{CopyLine}
use Rattle.pei_types.specs.declared.lines.HeldLine.{HeldLine}
use Rattle.pei_types.specs.declared.machines.MachineSpec.{MachineSpec}
use Rattle.pei_types.specs.Blocks.{l1_set_of, llc_set_of}
use Rattle.pei_types.specs.Recency.{change_at, list_at, without, to_front}
use Rattle.pei_types.proofs.Lists.{each_append, each_filter, each_map}
use Rattle.pei_types.proofs.Tests.{if-true, if-false}
use Rattle.coherence_laws.specs.Data.{at_block}
use Rattle.coherence_laws.specs.Holdings.{Holdings, held_copy, held_line, copy_content, line_content}
use Rattle.mesi_l1.specs.Cache as private
use Rattle.llc.specs.Cache as shared
use Rattle.stack_vaults.specs.Blocks.{Stack, content_of, with_block}
use Rattle.coherence_bus.specs.Inside.{holdings}
use Rattle.coherence_bus.proofs.Settling.{Within}
use Rattle.coherence_bus.proofs.Standing.{sets_at}

-- ---- private caches

map_set : {A B : Type 0} (F : A → B) (g : B → B) (xs : List A) (i : ℕ) (w d : A) → i < length xs → F w ≡ g (F (get_or xs i d)) → map F (slice_set xs i w) ≡ change_at (map F xs) i g
map_set F g [] i w d within is = refl
map_set F g (x ∷ xs) zero w d within is = ap (λ y. y ∷ map F xs) is
map_set F g (x ∷ xs) (suc i) w d within is = ap (λ ys. F x ∷ ys) (map_set F g xs i w d (omega (arith, within)) is)

-- the lines of all private caches once one of them has another set
pub l1_after : (m : MachineSpec) (caches : List private.Cache) (c : CoreId) (v w d : private.Cache) (b : BlockNo) (f : List CopyLine → List CopyLine) → c.0 < length caches → v ≡ get_or caches c.0 d → length v.sets ≡ m.l1_sets
    → w.sets ≡ change_at v.sets (private.set_of v b) f → map (λ (x : private.Cache). x.sets) (slice_set caches c.0 w) ≡ change_at (map (λ (x : private.Cache). x.sets) caches) c.0 (λ sets. change_at sets (l1_set_of m b) f)
l1_after m caches c v w d b f within is size change =
    map_set (λ (x : private.Cache). x.sets) (λ sets. change_at sets (l1_set_of m b) f) caches c.0 w d within
    (change ∙ ap (λ n. change_at v.sets (b.0 % n) f) size ∙ ap (λ (x : private.Cache). change_at x.sets (l1_set_of m b) f) is)

-- each cache keeps its ways
pub ways_after : (n : ℕ) (caches : List private.Cache) (i : ℕ) (w : private.Cache) → w.ways ≡ n → AllByRecursion (λ (x : private.Cache). x.ways ≡ n) caches → AllByRecursion (λ (x : private.Cache). x.ways ≡ n) (slice_set caches i w)
ways_after n [] i w is all = tt
ways_after n (x ∷ xs) zero w is all = (is, all.1)
ways_after n (x ∷ xs) (suc i) w is all = (all.0, ways_after n xs i w is all.1)

content_same : (o : Option CopyLine) → private.content_in o ≡ copy_content o
content_same None = refl
content_same (Some x) = refl

-- the content of a core's copy
pub copy_is : (m : MachineSpec) (caches : List private.Cache) (llc : shared.Cache) (vaults : Stack) (c : CoreId) (v d : private.Cache) (b : BlockNo) → c.0 < length caches → v ≡ get_or caches c.0 d → length v.sets ≡ m.l1_sets
    → private.content_of v b ≡ held_copy m (holdings caches llc vaults) c b
copy_is m caches llc vaults c v d b within is size =
    content_same (private.copy_of v b) ∙ ap (λ n. copy_content (find (private.is_copy_of b) (list_at v.sets (b.0 % n)))) size
    ∙ ap (λ sets. copy_content (find (private.is_copy_of b) (list_at sets (l1_set_of m b)))) (ap (λ (x : private.Cache). x.sets) is ∙ sym (sets_at caches c.0 d within))

-- ---- the last-level cache

pub llc_after : (m : MachineSpec) (llc : shared.Cache) (b : BlockNo) (f : List HeldLine → List HeldLine) → length llc.sets ≡ m.llc_sets → change_at llc.sets (shared.set_of llc b) f ≡ change_at llc.sets (llc_set_of m b) f
llc_after m llc b f size = ap (λ n. change_at llc.sets (b.0 % n) f) size

line_same : (o : Option HeldLine) → shared.content_in o ≡ line_content o
line_same None = refl
line_same (Some x) = refl

-- the content of its line
pub line_is : (m : MachineSpec) (caches : List private.Cache) (llc : shared.Cache) (vaults : Stack) (b : BlockNo) → length llc.sets ≡ m.llc_sets → shared.content_of llc b ≡ held_line m (holdings caches llc vaults) b
line_is m caches llc vaults b size = line_same (shared.held_of llc b) ∙ ap (λ n. line_content (find (shared.is_held_of b) (list_at llc.sets (b.0 % n)))) size

-- ---- the vaults

pub vaults_after : (vaults : Stack) (b : BlockNo) (content : Block) → b.0 < length vaults.blocks → (λ e. content_of (with_block vaults b content) e) ≡ at_block (λ e. content_of vaults e) b content
vaults_after vaults b content within = fun_ext (λ e. at e (e.0 == b.0) refl)
  where
    at : (e : BlockNo) (t : Bool) → (e.0 == b.0) ≡ t → content_of (with_block vaults b content) e ≡ (if e.0 == b.0 then content else content_of vaults e)
    at e true here = get_or-set_at vaults.blocks b.0 e.0 content (record { 0 = [] }) (eqb-true e.0 b.0 here) within ∙ sym (if-true (e.0 == b.0) content (content_of vaults e) here)
    at e false other = get_or-set_other vaults.blocks b.0 e.0 content (record { 0 = [] }) (eqb-false e.0 b.0 other) ∙ sym (if-false (e.0 == b.0) content (content_of vaults e) other)

-- ---- lines hold blocks of memory

abbrev pub IsInside : MachineSpec → HeldLine → Type 0
IsInside m x = x.block.0 < m.blocks

each_changed : {A : Type 0} (P : A → Type 0) (f : List A → List A) → ((set : List A) → AllByRecursion P set → AllByRecursion P (f set)) → (xs : List (List A)) → ((n : ℕ) → AllByRecursion P (list_at xs n)) → (i n : ℕ) → AllByRecursion P (list_at (change_at xs i f) n)
each_changed P f keeps [] all i n = all n
each_changed P f keeps (x ∷ xs) all zero zero = keeps x (all 0)
each_changed P f keeps (x ∷ xs) all zero (suc n) = all (suc n)
each_changed P f keeps (x ∷ xs) all (suc i) zero = all 0
each_changed P f keeps (x ∷ xs) all (suc i) (suc n) = each_changed P f keeps xs (λ j. all (suc j)) i n

-- a set changes, and its lines still hold blocks of memory
pub within_after : (m : MachineSpec) (k l : Holdings) (b : BlockNo) (f : List HeldLine → List HeldLine) → l.llc ≡ change_at k.llc (llc_set_of m b) f → ((set : List HeldLine) → AllByRecursion (IsInside m) set → AllByRecursion (IsInside m) (f set)) → Within m k → Within m l
within_after m k l b f is keeps all = subst (λ (xs : List (List HeldLine)). (n : ℕ) → AllByRecursion (IsInside m) (list_at xs n)) (sym is) (λ n. each_changed (IsInside m) f keeps k.llc all (llc_set_of m b) n)

pub within_same : (m : MachineSpec) (k l : Holdings) → l.llc ≡ k.llc → Within m k → Within m l
within_same m k l is all = subst (λ (xs : List (List HeldLine)). (n : ℕ) → AllByRecursion (IsInside m) (list_at xs n)) (sym is) all

pub keeps_without : (m : MachineSpec) (test : HeldLine → Bool) (set : List HeldLine) → AllByRecursion (IsInside m) set → AllByRecursion (IsInside m) (without test set)
keeps_without m test set all = each_filter (IsInside m) (λ x. not (test x)) set all

pub keeps_front : (m : MachineSpec) (test : HeldLine → Bool) (set : List HeldLine) → AllByRecursion (IsInside m) set → AllByRecursion (IsInside m) (to_front test set)
keeps_front m test set all = each_append (IsInside m) (filter test set) (without test set) (each_filter (IsInside m) test set all) (keeps_without m test set all)

pub keeps_map : (m : MachineSpec) (g : HeldLine → HeldLine) (set : List HeldLine) → ((x : HeldLine) → (g x).block ≡ x.block) → AllByRecursion (IsInside m) set → AllByRecursion (IsInside m) (map g set)
keeps_map m g set same all = each_map (IsInside m) (IsInside m) g (λ x inside. subst (λ (y : BlockNo). y.0 < m.blocks) (sym (same x)) inside) set all
