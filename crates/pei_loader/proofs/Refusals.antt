-- The first of several refusals.
use Rattle.std.proofs.Common.{◌≡◌, Option, Some, None, ap, subst}
use Rattle.pei_types.specs.Image.{LoadRefusal, or_then}
use Rattle.pei_loader.specs.declared.faults.LoadFault.{LoadFault}
use Rattle.pei_loader.specs.declared.faults.LoadFault.TheVariants as fault
use Rattle.pei_loader.specs.Faults.{IsFaultOf}

or_then_some : (r next : Option LoadRefusal) (x : LoadRefusal) → r ≡ Some x → or_then r next ≡ Some x
or_then_some r next x e = ap (λ o. or_then o next) e

-- a fault of the first is a fault of both in turn
pub fault_first : (f : LoadFault) (r next : Option LoadRefusal) → IsFaultOf f r → IsFaultOf f (or_then r next)
fault_first (fault.DataMisaligned addr) r next h = or_then_some r next _ h
fault_first (fault.DataOutOfRange addr) r next h = or_then_some r next _ h
fault_first (fault.DataOverlap addr) r next h = or_then_some r next _ h
fault_first (fault.ShowOutOfRange addr) r next h = or_then_some r next _ h
fault_first (fault.NoEntry core) r next h = or_then_some r next _ h
fault_first fault.OutOfMemory r next h = tt

-- without a first, the next decides
pub none_first : (r next : Option LoadRefusal) → r ≡ None → or_then r next ≡ next
none_first r next e = ap (λ o. or_then o next) e

-- a fault of a refusal is one of an equal refusal
pub fault_along : (f : LoadFault) (r s : Option LoadRefusal) → r ≡ s → IsFaultOf f r → IsFaultOf f s
fault_along f r s e h = subst (λ o. IsFaultOf f o) e h
