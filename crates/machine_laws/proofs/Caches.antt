-- Caches that hold memory beside no PEI, and blocks that are written whole.
use Rattle.std.proofs.Common.{◌≡◌, true, List, [], sym, subst}
use Rattle.pei_types.specs.declared.identifiers.Block.{Block}
use Rattle.pei_types.specs.declared.identifiers.BlockNo.{BlockNo}
use Rattle.pei_types.specs.declared.identifiers.CoreId.{CoreId}
use Rattle.pei_types.specs.declared.operations.Letter.TheVariants as letter
use Rattle.pei_types.specs.declared.operations.Op.{Op}
use Rattle.pei_types.specs.declared.operations.Operands.{Operands}
use Rattle.pei_types.specs.declared.inflight_looks.PeiLook.{PeiLook}
use Rattle.pei_types.specs.declared.inflight_looks.Phase.TheVariants as phase
use Rattle.pei_types.specs.declared.machines.MachineSpec.{MachineSpec}
use Rattle.pei_types.specs.MachineState.{State, letter_of, mark_of, is_owned, is_phase, with_l1_front}
use Rattle.pei_types.specs.Operation.{is_writer, block_after}
use Rattle.coherence_laws.specs.Data.{Data, at_block, with_copy, BuffersHold}
use Rattle.coherence_laws.specs.Holdings.{Holdings, data_of, with_copy_front}
use Rattle.coherence_laws.specs.Invariants.{Invariants, HoldsSeal, caches_alone}
use Rattle.coherence_laws.specs.Laws.{FollowsContents, KeepsWrites}
use Rattle.coherence_laws.specs.Sets.{Each}
use Rattle.machine_laws.specs.Memory.{HoldsMemory}
use Rattle.machine_laws.proofs.Memory.{follow_themselves}

-- no PEI, no buffer
no_buffers : (s : State) (d : Data) (memory : BlockNo → Block) → s.peis ≡ [] → BuffersHold s d memory
no_buffers s d memory none = subst (λ (ps : List PeiLook). Each (λ p. is_phase p.phase phase.Read ≡ true → d.buffer p.id ≡ memory p.block) ps) (sym none) tt

pub memory_alone : (m : MachineSpec) (s : State) (k : Holdings) (memory : BlockNo → Block) → HoldsMemory m s k memory → HoldsMemory m (caches_alone m s.l1 s.llc) k memory
memory_alone m s k memory h = record { l1 = h.l1; llc = h.llc; current = h.current; buffers = tt }

pub memory_written : FollowsContents → KeepsWrites → (m : MachineSpec) (s : State) (k : Holdings) (memory : BlockNo → Block) (c : CoreId) (b : BlockNo) (content : Block) → s.peis ≡ [] → Invariants m s → is_owned (letter_of m s c b) ≡ true → HoldsMemory m s k memory → Invariants m (with_l1_front m s c b letter.M) × HoldsMemory m (with_l1_front m s c b letter.M) (with_copy_front m k c b letter.M content) (at_block memory b content)
memory_written follows writes m s k memory c b content none i own h =
    let after = writes.invariants m s c b i own
    in let f = writes.lines m s k (data_of m k) c b content i own (follow_themselves m s k memory h)
    in (
      after,
      record {
        l1 = f.l1;
        llc = f.llc;
        current = follows.holds m (with_l1_front m s c b letter.M) (with_copy_front m k c b letter.M content) (with_copy (data_of m k) c b content) (at_block memory b content) after f (writes.copies m s (data_of m k) memory c b content i own h.current);
        buffers = no_buffers (with_l1_front m s c b letter.M) (data_of m (with_copy_front m k c b letter.M content)) (at_block memory b content) none;
      },
    )

pub memory_executed : KeepsWrites → (m : MachineSpec) (s : State) (k : Holdings) (memory : BlockNo → Block) (b : BlockNo) (o : Op) (operands : Operands) → s.peis ≡ [] → HoldsSeal (letter_of m s) (mark_of m s) b (is_writer o) → HoldsMemory m s k memory → (k.vault b ≡ memory b) × HoldsMemory m s (record k { vault = at_block k.vault b (block_after o operands (k.vault b)) }) (at_block memory b (block_after o operands (memory b)))
memory_executed writes m s k memory b o operands none seal h =
    let l : Holdings = record k { vault = at_block k.vault b (block_after o operands (k.vault b)) }
    in (
      writes.current m s (data_of m k) memory b (is_writer o) seal h.current,
      record {
        l1 = h.l1;
        llc = h.llc;
        current = writes.vaults m s (data_of m k) memory b o operands seal h.current;
        buffers = no_buffers s (data_of m l) (at_block memory b (block_after o operands (memory b))) none;
      },
    )
