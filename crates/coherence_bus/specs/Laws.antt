-- The laws that the calls of the bus rest on.
use Rattle.coherence_laws.specs.Laws.{KeepsInvariants}
use Rattle.machine_laws.specs.Laws.{ContentsAreKept, CachesHoldMemory}
use Rattle.mesi_l1.specs.Laws as private
use Rattle.llc.specs.Laws as shared

pub record Laws : Type 0 where
  -- letters and marks keep their invariants, and contents follow them
  pub invariants : KeepsInvariants
  pub contents : ContentsAreKept
  pub caches : CachesHoldMemory
  -- the caches are the state's
  pub l1 : private.FollowsState
  pub llc : shared.FollowsState
