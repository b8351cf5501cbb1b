-- Rows read only the bank of their block, and only their core.
use Rattle.std.proofs.Common.{◌≡◌, ℕ, Bool, true, false, not, ◌&&◌, ◌||◌, List, [], ◌∷◌, length, find, Option, Some, None, option_map, is_none, refl, sym, ◌∙◌, ap, ap₂, subst, eq-eqb, slice_get, slice_index}
use Rattle.std.specs.Prelude.{◌==◌, if◌then◌else◌}
use Rattle.std.specs.List.{AllByRecursion, list_any, last_or}
use Rattle.std.proofs.lemmas.Bool.{and_parts}
use Rattle.std.proofs.lemmas.Option.{same_Some}
use Rattle.pei_types.specs.declared.identifiers.Block.{Block}
use Rattle.pei_types.specs.declared.identifiers.BlockNo.{BlockNo}
use Rattle.pei_types.specs.declared.identifiers.CoreId.{CoreId}
use Rattle.pei_types.specs.declared.identifiers.Lane.{Lane}
use Rattle.pei_types.specs.declared.identifiers.PeiId.{PeiId}
use Rattle.pei_types.specs.declared.calls.Call.{Call}
use Rattle.pei_types.specs.declared.calls.Call.TheVariants as call
use Rattle.pei_types.specs.declared.operations.Op.{Op}
use Rattle.pei_types.specs.declared.operations.Operands.{Operands}
use Rattle.pei_types.specs.declared.inflight_looks.PeiLook.{PeiLook}
use Rattle.pei_types.specs.declared.inflight_looks.Phase.{Phase}
use Rattle.pei_types.specs.declared.inflight_looks.Phase.TheVariants as phase
use Rattle.pei_types.specs.declared.events.EventKind.TheVariants as event
use Rattle.pei_types.specs.declared.machines.MachineSpec.{MachineSpec}
use Rattle.pei_types.specs.Blocks.{block_of, word_of, same_block, same_core, same_lane, llc_set_of, vault_of, tag_of}
use Rattle.pei_types.specs.MachineState.{State, Line, LlcLine, letter_of, letter_in, mark_of, mark_in, is_line_of, is_llc_line_of, is_i, is_owned, is_absent, is_clean, is_dirty, is_phase, cores_of, lanes_of, free_lane, first_unentered, first_unfinished, conflict, queue_of, queue_is_full, llc_set, no_other_has}
use Rattle.pei_types.specs.Guard.{letter_serves}
use Rattle.pei_types.specs.Monitor.{placement}
use Rattle.pei_types.specs.Next.{Makes, holder, other_holder, owner, other_owner, evict, bring_in, grant, grant_modify, grant_shared, make_room, l1_victim, want, race_or, load_row, store_row, issue_row, draining_or, call_row, enter_row, seal_writer, seal_reader, seal_row, act_kind, head_row, may_act, pei_row}
use Rattle.pei_types.specs.Operation.{is_writer}
use Rattle.pei_types.specs.Recency.{victim}
use Rattle.pei_types.proofs.Identities.{same_block_is}
use Rattle.coherence_laws.specs.Invariants.{HasSets, IsLlcLineOf}
use Rattle.bank_laws.specs.Banks.{HasBanks, bank_of}
use Rattle.bank_laws.specs.Parts.{SameInBank, SameForCore, is_in_bank, is_of_core}
use Rattle.bank_laws.specs.Local.{IsAccess, IsOwnCall, SameOn}
use Rattle.bank_laws.specs.Rows.{IsCallOf}
use Rattle.pei_types.specs.Core.{Calls}
use Rattle.bank_laws.proofs.Lists.{find_kept, any_kept, find_same, all_same}
use Rattle.bank_laws.proofs.Splits.{bank_by_llc_set}

-- ---- what a bank shows of a block

pub letter_same : (m : MachineSpec) (k : ℕ) (s t : State) (c : CoreId) (b : BlockNo) → SameInBank m k s t → bank_of m b ≡ k → letter_of m s c b ≡ letter_of m t c b
letter_same m k s t c b h own = ap (λ set. letter_in (find (is_line_of b) set)) (h.l1 c b own)

pub mark_same : (m : MachineSpec) (k : ℕ) (s t : State) (b : BlockNo) → SameInBank m k s t → bank_of m b ≡ k → mark_of m s b ≡ mark_of m t b
mark_same m k s t b h own = ap (λ set. mark_in (find (is_llc_line_of b) set)) (h.llc b own)

holder_same : (m : MachineSpec) (k : ℕ) (s t : State) (b : BlockNo) → SameInBank m k s t → bank_of m b ≡ k → holder m s b ≡ holder m t b
holder_same m k s t b h own = find_same _ _ (λ c. ap (λ l. not (is_i l)) (letter_same m k s t c b h own)) (cores_of m)

other_holder_same : (m : MachineSpec) (k : ℕ) (s t : State) (d : CoreId) (b : BlockNo) → SameInBank m k s t → bank_of m b ≡ k → other_holder m s d b ≡ other_holder m t d b
other_holder_same m k s t d b h own = find_same _ _ (λ c. ap (λ l. not (same_core c d) && not (is_i l)) (letter_same m k s t c b h own)) (cores_of m)

owner_same : (m : MachineSpec) (k : ℕ) (s t : State) (b : BlockNo) → SameInBank m k s t → bank_of m b ≡ k → owner m s b ≡ owner m t b
owner_same m k s t b h own = find_same _ _ (λ c. ap is_owned (letter_same m k s t c b h own)) (cores_of m)

other_owner_same : (m : MachineSpec) (k : ℕ) (s t : State) (d : CoreId) (b : BlockNo) → SameInBank m k s t → bank_of m b ≡ k → other_owner m s d b ≡ other_owner m t d b
other_owner_same m k s t d b h own = find_same _ _ (λ c. ap (λ l. not (same_core c d) && is_owned l) (letter_same m k s t c b h own)) (cores_of m)

pub no_other_has_same : (m : MachineSpec) (k : ℕ) (s t : State) (d : CoreId) (b : BlockNo) → SameInBank m k s t → bank_of m b ≡ k → no_other_has m s d b ≡ no_other_has m t d b
no_other_has_same m k s t d b h own = all_same _ _ (λ c. ap (λ l. same_core c d || is_i l) (letter_same m k s t c b h own)) (cores_of m)

-- a PEI on the block is one of the bank's
block_in_bank : (m : MachineSpec) (k : ℕ) (b : BlockNo) → bank_of m b ≡ k → (test : PeiLook → Bool) (p : PeiLook) → (same_block p.block b && test p) ≡ true → is_in_bank m k p ≡ true
block_in_bank m k b own test p e =
    eq-eqb (bank_of m p.block) k (ap (bank_of m) (same_block_is p.block b (and_parts (same_block p.block b) (test p) e).0) ∙ own)

pub any_on_block : (m : MachineSpec) (k : ℕ) (s t : State) (b : BlockNo) (test : PeiLook → Bool) → SameInBank m k s t → bank_of m b ≡ k → list_any (λ p. same_block p.block b && test p) s.peis ≡ list_any (λ p. same_block p.block b && test p) t.peis
any_on_block m k s t b test h own =
    sym (any_kept (λ p. same_block p.block b && test p) (is_in_bank m k) (block_in_bank m k b own test) s.peis)
    ∙ ap (list_any (λ p. same_block p.block b && test p)) h.peis
    ∙ any_kept (λ p. same_block p.block b && test p) (is_in_bank m k) (block_in_bank m k b own test) t.peis

pub any_of_block : (m : MachineSpec) (k : ℕ) (s t : State) (b : BlockNo) (test : PeiLook → Bool) → ((p : PeiLook) → test p ≡ true → same_block p.block b ≡ true) → SameInBank m k s t → bank_of m b ≡ k → list_any test s.peis ≡ list_any test t.peis
any_of_block m k s t b test on h own = sym (any_kept test (is_in_bank m k) there s.peis) ∙ ap (list_any test) h.peis ∙ any_kept test (is_in_bank m k) there t.peis
  where
    there : (p : PeiLook) → test p ≡ true → is_in_bank m k p ≡ true
    there p e = eq-eqb (bank_of m p.block) k (ap (bank_of m) (same_block_is p.block b (on p e)) ∙ own)

pub conflict_same : (m : MachineSpec) (k : ℕ) (s t : State) (b : BlockNo) (store : Bool) → SameInBank m k s t → bank_of m b ≡ k → conflict s b store ≡ conflict t b store
conflict_same m k s t b store h own =
    let test : PeiLook → Bool = λ p. store || is_writer p.op
    in ap (option_map (λ (p : PeiLook). p.id))
    (sym (find_kept (λ p. same_block p.block b && test p) (is_in_bank m k) (block_in_bank m k b own test) s.peis)
    ∙ ap (find (λ p. same_block p.block b && test p)) h.peis
    ∙ find_kept (λ p. same_block p.block b && test p) (is_in_bank m k) (block_in_bank m k b own test) t.peis)

-- ---- wanting a block

last_has : {A : Type 0} (P : A → Type 0) (set : List A) (o : Option A) (x : A) → AllByRecursion P set → ((y : A) → o ≡ Some y → P y) → last_or o set ≡ Some x → P x
last_has P [] o x h first e = first x e
last_has P (y ∷ set) o x h first e = last_has P set (Some y) x h.1 (λ z k. subst P (same_Some y z k) h.0) e

pub victim_has : {A : Type 0} (P : A → Type 0) (ways : ℕ) (set : List A) (x : A) → AllByRecursion P set → victim ways set ≡ Some x → P x
victim_has {A} P ways set x h e = by (length set == ways) e
  where
    by : (t : Bool) → (if t then last_or None set else None) ≡ Some x → P x
    by true k = last_has P set None x h (λ y q. absurd (cc q)) k
    by false k = absurd (cc k)

-- the victim is of the same bank
pub victim_in_bank : (m : MachineSpec) (s : State) (b : BlockNo) (line : LlcLine) → HasBanks m → HasSets m s → victim m.llc_ways (llc_set m s b) ≡ Some line → bank_of m line.block ≡ bank_of m b
victim_in_bank m s b line banks sets e =
    bank_by_llc_set m line.block b banks (victim_has (IsLlcLineOf m (llc_set_of m b)) m.llc_ways (llc_set m s b) line (sets.llc (llc_set_of m b)).each e).0

evict_same : (m : MachineSpec) (s t : State) (v : BlockNo) (o : Option CoreId) → mark_of m s v ≡ mark_of m t v → evict m s v o ≡ evict m t v o
evict_same m s t v (Some c) h = refl
evict_same m s t v None h = ap (λ k. if is_dirty k then event.Clean v else event.EvictLlc v) h

bring_in_same : (m : MachineSpec) (k : ℕ) (s t : State) (b : BlockNo) (o : Option LlcLine) → HasBanks m → HasSets m s → SameInBank m k s t → bank_of m b ≡ k → victim m.llc_ways (llc_set m s b) ≡ o → bring_in m s b o ≡ bring_in m t b o
bring_in_same m k s t b None banks sets h own e = refl
bring_in_same m k s t b (Some line) banks sets h own e =
    let there : bank_of m line.block ≡ k = victim_in_bank m s b line banks sets e ∙ own
    in ap (evict m s line.block) (holder_same m k s t line.block h there)
    ∙ evict_same m s t line.block (holder m t line.block) (mark_same m k s t line.block h there)

grant_shared_same : (m : MachineSpec) (k : ℕ) (s t : State) (c : CoreId) (b : BlockNo) (o : Option CoreId) → SameInBank m k s t → bank_of m b ≡ k → grant_shared m s c b o ≡ grant_shared m t c b o
grant_shared_same m k s t c b (Some d) h own = refl
grant_shared_same m k s t c b None h own =
    ap₂ (λ alone sealed. if not alone || sealed then event.GrantS b else event.GrantE b) (no_other_has_same m k s t c b h own)
    (any_on_block m k s t b (λ p. is_phase p.phase phase.Sealed) h own)

grant_same : (m : MachineSpec) (k : ℕ) (s t : State) (c : CoreId) (b : BlockNo) (modify : Bool) → SameInBank m k s t → bank_of m b ≡ k → grant m s c b modify ≡ grant m t c b modify
grant_same m k s t c b true h own = ap (grant_modify b) (other_holder_same m k s t c b h own)
grant_same m k s t c b false h own =
    ap (grant_shared m s c b) (other_owner_same m k s t c b h own) ∙ grant_shared_same m k s t c b (other_owner m t c b) h own

make_room_same : (m : MachineSpec) (k : ℕ) (s t : State) (c : CoreId) (b : BlockNo) (modify : Bool) (o : Option Line) → SameInBank m k s t → bank_of m b ≡ k → make_room m s c b modify o ≡ make_room m t c b modify o
make_room_same m k s t c b modify (Some line) h own = refl
make_room_same m k s t c b modify None h own = grant_same m k s t c b modify h own

l1_victim_same : (m : MachineSpec) (k : ℕ) (s t : State) (c : CoreId) (b : BlockNo) → SameInBank m k s t → bank_of m b ≡ k → l1_victim m s c b ≡ l1_victim m t c b
l1_victim_same m k s t c b h own =
    ap₂ (λ l set. if is_i l then victim m.l1_ways set else None) (letter_same m k s t c b h own) (h.l1 c b own)

if_same : {A : Type 0} (b c : Bool) (x y u v : A) → b ≡ c → x ≡ u → y ≡ v → (if b then x else y) ≡ (if c then u else v)
if_same true c x y u v e f g = subst (λ d. x ≡ (if d then u else v)) e f
if_same false c x y u v e f g = subst (λ d. y ≡ (if d then u else v)) e g

pub want_same : (m : MachineSpec) (k : ℕ) (s t : State) (c : CoreId) (b : BlockNo) (modify : Bool) → HasBanks m → HasSets m s → SameInBank m k s t → bank_of m b ≡ k → want m s c b modify ≡ want m t c b modify
want_same m k s t c b modify banks sets h own =
    if_same (is_absent (mark_of m s b)) (is_absent (mark_of m t b)) _ _ _ _ (ap is_absent (mark_same m k s t b h own))
    (bring_in_same m k s t b (victim m.llc_ways (llc_set m s b)) banks sets h own refl ∙ ap (λ set. bring_in m t b (victim m.llc_ways set)) (h.llc b own))
    (ap (make_room m s c b modify) (l1_victim_same m k s t c b h own) ∙ make_room_same m k s t c b modify (l1_victim m t c b) h own)

-- ---- calls

pub load_same : (m : MachineSpec) (k : ℕ) (s t : State) (content other : BlockNo → Block) (c : CoreId) (pc addr : ℕ) → HasBanks m → HasSets m s → SameInBank m k s t → bank_of m (block_of addr) ≡ k → content (block_of addr) ≡ other (block_of addr) → load_row m s content c pc addr ≡ load_row m t other c pc addr
load_same m k s t content other c pc addr banks sets h own same =
    let b : BlockNo = block_of addr
    in ap₂ (λ o kind. race_or o pc b kind) (conflict_same m k s t b false h own)
    (if_same (is_i (letter_of m s c b)) (is_i (letter_of m t c b)) _ _ _ _ (ap is_i (letter_same m k s t c b h own))
    (want_same m k s t c b false banks sets h own) (ap (λ x. event.Load addr (slice_index x.0 (word_of addr))) same))

pub store_same : (m : MachineSpec) (k : ℕ) (s t : State) (c : CoreId) (pc addr value : ℕ) → HasBanks m → HasSets m s → SameInBank m k s t → bank_of m (block_of addr) ≡ k → store_row m s c pc addr value ≡ store_row m t c pc addr value
store_same m k s t c pc addr value banks sets h own =
    let b : BlockNo = block_of addr
    in ap₂ (λ o kind. race_or o pc b kind) (conflict_same m k s t b true h own)
    (if_same (is_owned (letter_of m s c b)) (is_owned (letter_of m t c b)) _ _ _ _ (ap is_owned (letter_same m k s t c b h own))
    refl (want_same m k s t c b true banks sets h own))

-- ---- PEIs that have entered

pub queue_full_same : (m : MachineSpec) (k : ℕ) (s t : State) (b : BlockNo) → SameInBank m k s t → bank_of m b ≡ k → queue_is_full m s (vault_of m b) ≡ queue_is_full m t (vault_of m b)
queue_full_same m k s t b h own = ap (λ q. length q == m.queue) (h.queues b own)

seal_writer_same : (m : MachineSpec) (s t : State) (p : PeiLook) (o : Option CoreId) → mark_of m s p.block ≡ mark_of m t p.block → seal_writer m s p o ≡ seal_writer m t p o
seal_writer_same m s t p (Some c) h = refl
seal_writer_same m s t p None h = ap (λ k. if is_dirty k then event.Clean p.block else (if is_clean k then event.EvictLlc p.block else event.Seal p.id.seq (vault_of m p.block))) h

seal_reader_same : (m : MachineSpec) (s t : State) (p : PeiLook) (o : Option CoreId) → mark_of m s p.block ≡ mark_of m t p.block → seal_reader m s p o ≡ seal_reader m t p o
seal_reader_same m s t p (Some c) h = refl
seal_reader_same m s t p None h = ap (λ k. if is_dirty k then event.Clean p.block else event.Seal p.id.seq (vault_of m p.block)) h

seal_same : (m : MachineSpec) (k : ℕ) (s t : State) (p : PeiLook) → SameInBank m k s t → bank_of m p.block ≡ k → seal_row m s p ≡ seal_row m t p
seal_same m k s t p h own =
    if_same (queue_is_full m s (vault_of m p.block)) (queue_is_full m t (vault_of m p.block)) _ _ _ _ (queue_full_same m k s t p.block h own) refl
    (ap Makes
    (if_same (is_writer p.op) (is_writer p.op) _ _ _ _ refl
    (ap (seal_writer m s p) (holder_same m k s t p.block h own) ∙ seal_writer_same m s t p (holder m t p.block) (mark_same m k s t p.block h own))
    (ap (seal_reader m s p) (owner_same m k s t p.block h own) ∙ seal_reader_same m s t p (owner m t p.block) (mark_same m k s t p.block h own))))

act_same : (content other : BlockNo → Block) (p : PeiLook) → content p.block ≡ other p.block → act_kind content p ≡ act_kind other p
act_same content other p same = ap (λ x. act_kind (λ b. x) p) same

head_same : (content other : BlockNo → Block) (p : PeiLook) (o : Option PeiId) → content p.block ≡ other p.block → head_row content p o ≡ head_row other p o
head_same content other p None same = refl
head_same content other p (Some head) same = ap (λ x. head_row (λ b. x) p (Some head)) same

pub serves_same : (m : MachineSpec) (k : ℕ) (s t : State) (p : PeiLook) → SameInBank m k s t → bank_of m p.block ≡ k → letter_serves m s p ≡ letter_serves m t p
serves_same m k s t p h own =
    ap (λ l. if is_writer p.op then is_owned l else not (is_i l)) (letter_same m k s t p.id.core p.block h own)

-- the row of a PEI that has entered
pub entered_same : (m : MachineSpec) (k : ℕ) (s t : State) (content other : BlockNo → Block) (granted : Bool) (p : PeiLook) (ph : Phase) → HasBanks m → HasSets m s → SameInBank m k s t → bank_of m p.block ≡ k → content p.block ≡ other p.block → is_phase ph phase.Issued ≡ false → pei_row m s content granted p ph ≡ pei_row m t other granted p ph
entered_same m k s t content other granted p phase.Issued banks sets h own same past = absurd (cc past)
entered_same m k s t content other granted p phase.Entered banks sets h own same past =
    ap (λ set. Makes (event.Place p.id.seq (placement m.placement (tag_of m p.block) set))) (h.monitor p.block own)
entered_same m k s t content other granted p phase.HostPlaced banks sets h own same past =
    ap Makes
    (if_same (letter_serves m s p) (letter_serves m t p) _ _ _ _ (serves_same m k s t p h own) refl
    (want_same m k s t p.id.core p.block (is_writer p.op) banks sets h own))
entered_same m k s t content other granted p phase.Read banks sets h own same past =
    ap Makes
    (if_same (may_act m s p) (may_act m t p) _ _ _ _ (ap (λ l. not (is_writer p.op) || is_owned l) (letter_same m k s t p.id.core p.block h own)) (act_same content other p same)
    (want_same m k s t p.id.core p.block true banks sets h own))
entered_same m k s t content other granted p phase.MemoryPlaced banks sets h own same past = seal_same m k s t p h own
entered_same m k s t content other granted p phase.Sealed banks sets h own same past =
    ap (λ q. head_row content p (slice_get q 0)) (h.queues p.block own) ∙ head_same content other p (slice_get (queue_of t (vault_of m p.block)) 0) same
entered_same m k s t content other granted p phase.Acted banks sets h own same past = refl

-- ---- what a core's own events show

of_core : (c : CoreId) (test : PeiLook → Bool) (p : PeiLook) → (same_core p.id.core c && test p) ≡ true → is_of_core c p ≡ true
of_core c test p e = (and_parts (same_core p.id.core c) (test p) e).0

find_of_core : (c : CoreId) (s t : State) (test : PeiLook → Bool) → SameForCore c s t → find (λ p. same_core p.id.core c && test p) s.peis ≡ find (λ p. same_core p.id.core c && test p) t.peis
find_of_core c s t test h =
    sym (find_kept (λ p. same_core p.id.core c && test p) (is_of_core c) (of_core c test) s.peis)
    ∙ ap (find (λ p. same_core p.id.core c && test p)) h.peis
    ∙ find_kept (λ p. same_core p.id.core c && test p) (is_of_core c) (of_core c test) t.peis

pub unentered_same : (c : CoreId) (s t : State) → SameForCore c s t → first_unentered s c ≡ first_unentered t c
unentered_same c s t h = ap (option_map (λ (p : PeiLook). p.id)) (find_of_core c s t (λ p. is_phase p.phase phase.Issued) h)

pub unfinished_same : (c : CoreId) (s t : State) → SameForCore c s t → first_unfinished s c ≡ first_unfinished t c
unfinished_same c s t h =
    ap (option_map (λ (p : PeiLook). p.id))
    (sym (find_kept (λ p. same_core p.id.core c) (is_of_core c) (λ p e. e) s.peis) ∙ ap (find (λ p. same_core p.id.core c)) h.peis ∙ find_kept (λ p. same_core p.id.core c) (is_of_core c) (λ p e. e) t.peis)

pub free_lane_same : (m : MachineSpec) (c : CoreId) (s t : State) → SameForCore c s t → free_lane m s c ≡ free_lane m t c
free_lane_same m c s t h = find_same _ _ (λ l. ap is_none (find_of_core c s t (λ p. same_lane p.lane l) h)) (lanes_of m)

pub entering_same : (m : MachineSpec) (s t : State) (content other : BlockNo → Block) (granted : Bool) (p : PeiLook) → SameForCore p.id.core s t → pei_row m s content granted p phase.Issued ≡ pei_row m t other granted p phase.Issued
entering_same m s t content other granted p h = ap (enter_row p granted) (unentered_same p.id.core s t h)

issue_same : (s t : State) (c : CoreId) (o : Op) (b : BlockNo) (operands : Operands) (lane : Option Lane) → slice_index s.issues c.0 ≡ slice_index t.issues c.0 → issue_row (slice_index s.issues c.0) o b operands lane ≡ issue_row (slice_index t.issues c.0) o b operands lane
issue_same s t c o b operands None h = refl
issue_same s t c o b operands (Some lane) h = ap (λ n. Makes (event.Issue n lane o b operands)) h

pub own_call_same : (m : MachineSpec) (s t : State) (content other : BlockNo → Block) (c : CoreId) (x : Call) → IsOwnCall x → SameForCore c s t → call_row m s content c x ≡ call_row m t other c x
own_call_same m s t content other c (call.Load pc addr) own h = absurd own
own_call_same m s t content other c (call.Store pc addr value) own h = absurd own
own_call_same m s t content other c call.Fence own h = absurd own
own_call_same m s t content other c (call.Pei o b operands) own h =
    ap (issue_row (slice_index s.issues c.0) o b operands) (free_lane_same m c s t h) ∙ issue_same s t c o b operands (free_lane m t c) h.issues
own_call_same m s t content other c (call.Out value) own h = refl
own_call_same m s t content other c (call.End kind) own h = ap (λ o. draining_or o (event.End kind)) (unfinished_same c s t h)

pub access_same : (m : MachineSpec) (k : ℕ) (s t : State) (content other : BlockNo → Block) (c : CoreId) (x : Call) → HasBanks m → HasSets m s → SameInBank m k s t → SameOn m k content other → IsAccess x → IsCallOf m k (Calls x) → call_row m s content c x ≡ call_row m t other c x
access_same m k s t content other c (call.Load pc addr) banks sets h same access own = ap Makes (load_same m k s t content other c pc addr banks sets h own (same (block_of addr) own))
access_same m k s t content other c (call.Store pc addr value) banks sets h same access own = ap Makes (store_same m k s t c pc addr value banks sets h own)
access_same m k s t content other c _ banks sets h same access own = absurd access
