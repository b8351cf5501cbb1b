-- What a message does to the caches is what it does to the state.
use Rattle.std.proofs.Common.{◌≡◌, Bool, true, false, not, ◌&&◌, ◌||◌, if◌then◌else◌, IsTrue, List, refl, sym, ap}
use Rattle.pei_types.specs.declared.identifiers.BlockNo.{BlockNo}
use Rattle.pei_types.specs.declared.identifiers.CoreId.{CoreId}
use Rattle.pei_types.specs.declared.operations.Letter.{Letter}
use Rattle.pei_types.specs.declared.operations.Letter.TheVariants as letter
use Rattle.pei_types.specs.declared.operations.Mark.TheVariants as mark
use Rattle.pei_types.specs.declared.events.EventKind.{EventKind}
use Rattle.pei_types.specs.declared.events.EventKind.TheVariants as event
use Rattle.pei_types.specs.Blocks.{llc_set_of, tag_of}
use Rattle.pei_types.specs.MachineState.{after_granting, letter_of, mark_of, is_absent, is_i, is_ahead, is_owned, is_sealed, no_other_has, writer_is_sealed, with_llc_mark, without_l1_line, with_l1_shared}
use Rattle.pei_types.specs.Guard.{guard, l1_has_room, llc_has_room}
use Rattle.pei_types.specs.Monitor.{MonitorEntry, after_access}
use Rattle.pei_types.specs.Recency.{change_at}
use Rattle.coherence_bus.specs.Hierarchy.{Hierarchy, after, state_of, with_caches}
use Rattle.inflight.specs.OnTheWay.{OnTheWay}
use Rattle.locality_monitor.specs.Table.{Table}
use Rattle.pmu_dispatch.specs.Steps.{is_message}
use Rattle.fabric.specs.History.{program_of}
use Rattle.fabric.specs.Joined.{joined, joined_state}
use Rattle.fabric.specs.Moves.{after_event}

taken_away : (bus : Hierarchy) (table : OnTheWay) (monitor : Table) (c : CoreId) (b : BlockNo) (t : Bool) →
    joined (with_caches bus (without_l1_line bus.machine (if t then with_llc_mark bus.machine (state_of bus) b mark.Dirty else state_of bus) c b)) table monitor
    ≡ record (joined bus table monitor) { state = without_l1_line bus.machine (if t then with_llc_mark bus.machine (joined_state bus table monitor) b mark.Dirty else joined_state bus table monitor) c b }
taken_away bus table monitor c b true = refl
taken_away bus table monitor c b false = refl

shared : (bus : Hierarchy) (table : OnTheWay) (monitor : Table) (c : CoreId) (b : BlockNo) (t : Bool) →
    joined (with_caches bus (with_l1_shared bus.machine (if t then with_llc_mark bus.machine (state_of bus) b mark.Dirty else state_of bus) c b)) table monitor
    ≡ record (joined bus table monitor) { state = with_l1_shared bus.machine (if t then with_llc_mark bus.machine (joined_state bus table monitor) b mark.Dirty else joined_state bus table monitor) c b }
shared bus table monitor c b true = refl
shared bus table monitor c b false = refl

-- whether a message grants a block
abbrev pub is_grant : EventKind → Bool
is_grant (event.GrantS b) = true
is_grant (event.GrantE b) = true
is_grant (event.GrantM b) = true
is_grant _ = false

-- a message that grants nothing
pub message_joined : (bus : Hierarchy) (table : OnTheWay) (monitor : Table) (own : CoreId) (kind : EventKind) → is_message kind ≡ true → is_grant kind ≡ false → joined (after bus own kind) table monitor ≡ after_event (joined bus table monitor) (program_of own) kind
message_joined bus table monitor own (event.Invalidate c b) h g = taken_away bus table monitor c b (is_ahead (letter_of bus.machine (state_of bus) c b))
message_joined bus table monitor own (event.EvictL1 c b) h g = taken_away bus table monitor c b (is_ahead (letter_of bus.machine (state_of bus) c b))
message_joined bus table monitor own (event.Downgrade c b) h g = shared bus table monitor c b (is_ahead (letter_of bus.machine (state_of bus) c b))
message_joined bus table monitor own (event.Clean b) h g = refl
message_joined bus table monitor own (event.EvictLlc b) h g = refl
message_joined bus table monitor own (event.Fill b) h g = refl
message_joined bus table monitor own (event.GrantS b) h g = absurd (cc g)
message_joined bus table monitor own (event.GrantE b) h g = absurd (cc g)
message_joined bus table monitor own (event.GrantM b) h g = absurd (cc g)
message_joined bus table monitor own _ h g = absurd (cc h)

-- the monitor's lists after an access of the last-level cache are the state's
abbrev pub AreAccessed : Hierarchy → Table → BlockNo → Table → Type 0
AreAccessed bus monitor b accessed = change_at monitor.sets (llc_set_of bus.machine b) (after_access bus.machine.llc_ways (tag_of bus.machine b)) ≡ accessed.sets

accessed_by : (bus : Hierarchy) (table : OnTheWay) (monitor accessed : Table) (own : CoreId) (b : BlockNo) (l : Letter) → AreAccessed bus monitor b accessed
    → joined (with_caches bus (after_granting bus.machine (state_of bus) own b l)) table accessed ≡ record (joined bus table monitor) { state = after_granting bus.machine (joined_state bus table monitor) own b l }
accessed_by bus table monitor accessed own b l same =
    ap (λ (sets : List (List MonitorEntry)). record (joined (with_caches bus (after_granting bus.machine (state_of bus) own b l)) table monitor) { state = record (joined_state (with_caches bus (after_granting bus.machine (state_of bus) own b l)) table monitor) { monitor = sets } }) (sym same)

-- a grant, which the monitor sees as an access
pub shared_joined : (bus : Hierarchy) (table : OnTheWay) (monitor accessed : Table) (own : CoreId) (b : BlockNo) → AreAccessed bus monitor b accessed → joined (after bus own (event.GrantS b)) table accessed ≡ after_event (joined bus table monitor) (program_of own) (event.GrantS b)
shared_joined bus table monitor accessed own b same = accessed_by bus table monitor accessed own b letter.S same

pub owned_joined : (bus : Hierarchy) (table : OnTheWay) (monitor accessed : Table) (own : CoreId) (b : BlockNo) → AreAccessed bus monitor b accessed → joined (after bus own (event.GrantE b)) table accessed ≡ after_event (joined bus table monitor) (program_of own) (event.GrantE b)
owned_joined bus table monitor accessed own b same = accessed_by bus table monitor accessed own b letter.E same

pub modified_joined : (bus : Hierarchy) (table : OnTheWay) (monitor accessed : Table) (own : CoreId) (b : BlockNo) → AreAccessed bus monitor b accessed → joined (after bus own (event.GrantM b)) table accessed ≡ after_event (joined bus table monitor) (program_of own) (event.GrantM b)
modified_joined bus table monitor accessed own b same = accessed_by bus table monitor accessed own b letter.M same

-- ---- guards on the caches alone

drop_third : (x y z : Bool) → (x && not y && z) ≡ true → (x && true && z) ≡ true
drop_third true true z h = absurd (cc h)
drop_third true false z h = h
drop_third false y z h = absurd (cc h)

drop_fourth : (u v w y z : Bool) → (u && v && w && not y && z) ≡ true → (u && v && w && true && z) ≡ true
drop_fourth true true true true z h = absurd (cc h)
drop_fourth true true true false z h = h
drop_fourth true true false y z h = absurd (cc h)
drop_fourth true false w y z h = absurd (cc h)
drop_fourth false v w y z h = absurd (cc h)

has_fourth : (u v w y z : Bool) → (u && v && w && not y && z) ≡ true → y ≡ false
has_fourth true true true true z h = absurd (cc h)
has_fourth true true true false z h = refl
has_fourth true true false y z h = absurd (cc h)
has_fourth true false w y z h = absurd (cc h)
has_fourth false v w y z h = absurd (cc h)

-- a message that meets its guard meets it beside no PEI
pub guard_alone : (bus : Hierarchy) (table : OnTheWay) (monitor : Table) (own : CoreId) (kind : EventKind) → is_message kind ≡ true → IsTrue (guard bus.machine (joined_state bus table monitor) (program_of own) kind) → IsTrue (guard bus.machine (state_of bus) (program_of own) kind)
guard_alone bus table monitor own (event.Invalidate c b) h g = g
guard_alone bus table monitor own (event.EvictL1 c b) h g = g
guard_alone bus table monitor own (event.Downgrade c b) h g = g
guard_alone bus table monitor own (event.Clean b) h g = g
guard_alone bus table monitor own (event.EvictLlc b) h g = g
guard_alone bus table monitor own (event.Fill b) h g =
    drop_third (is_absent (mark_of bus.machine (state_of bus) b)) (writer_is_sealed (joined_state bus table monitor) b) (llc_has_room bus.machine (state_of bus) b) g
guard_alone bus table monitor own (event.GrantS b) h g = g
guard_alone bus table monitor own (event.GrantE b) h g =
    drop_fourth (is_i (letter_of bus.machine (state_of bus) own b)) (not (is_absent (mark_of bus.machine (state_of bus) b))) (no_other_has bus.machine (state_of bus) own b) (is_sealed (joined_state bus table monitor) b) (l1_has_room bus.machine (state_of bus) own b) g
guard_alone bus table monitor own (event.GrantM b) h g =
    drop_fourth (not (is_owned (letter_of bus.machine (state_of bus) own b))) (not (is_absent (mark_of bus.machine (state_of bus) b))) (no_other_has bus.machine (state_of bus) own b) (is_sealed (joined_state bus table monitor) b) (not (is_i (letter_of bus.machine (state_of bus) own b)) || l1_has_room bus.machine (state_of bus) own b) g
guard_alone bus table monitor own _ h g = absurd (cc h)

-- a block is not granted for writing while a PEI is sealed on it
pub unsealed_owned : (bus : Hierarchy) (table : OnTheWay) (monitor : Table) (own : CoreId) (b : BlockNo) → IsTrue (guard bus.machine (joined_state bus table monitor) (program_of own) (event.GrantE b)) → is_sealed (joined_state bus table monitor) b ≡ false
unsealed_owned bus table monitor own b g =
    has_fourth (is_i (letter_of bus.machine (state_of bus) own b)) (not (is_absent (mark_of bus.machine (state_of bus) b))) (no_other_has bus.machine (state_of bus) own b) (is_sealed (joined_state bus table monitor) b) (l1_has_room bus.machine (state_of bus) own b) g

pub unsealed_modified : (bus : Hierarchy) (table : OnTheWay) (monitor : Table) (own : CoreId) (b : BlockNo) → IsTrue (guard bus.machine (joined_state bus table monitor) (program_of own) (event.GrantM b)) → is_sealed (joined_state bus table monitor) b ≡ false
unsealed_modified bus table monitor own b g =
    has_fourth (not (is_owned (letter_of bus.machine (state_of bus) own b))) (not (is_absent (mark_of bus.machine (state_of bus) b))) (no_other_has bus.machine (state_of bus) own b) (is_sealed (joined_state bus table monitor) b) (not (is_i (letter_of bus.machine (state_of bus) own b)) || l1_has_room bus.machine (state_of bus) own b) g
