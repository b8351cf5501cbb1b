use Rattle.std.proofs.Common.{◌≡◌, ◌≢◌, ◌∙◌, None, rules}
use Rattle.pei_io.specs.declared.files.Which.TheVariants as which
use Rattle.pei_io.proofs.tests.sure_objects_never_fail.Goals as goal

pub read_limited-requires-2 : goal.read_limited-requires-2
read_limited-requires-2 g c =
    let other : which.Machine ≢ which.Program = search rules
    in let made : c.in_ok-files.files.files.machine.name ≡ None = search rules
    in c.read_limited.ensures.others.same_name which.Machine other ∙ made

pub read_limited-requires-3 : goal.read_limited-requires-3
read_limited-requires-3 g c =
    let other : which.Trace ≢ which.Program = search rules
    in let another : which.Trace ≢ which.Machine = search rules
    in let made : c.in_ok-files.files.files.trace.name ≡ None = search rules
    in c.read_limited-2.ensures.others.same_name which.Trace another ∙ c.read_limited.ensures.others.same_name which.Trace other ∙ made

pub read_limited-requires-4 : goal.read_limited-requires-4
read_limited-requires-4 g c =
    let first : which.Kernel ≢ which.Program = search rules
    in let second : which.Kernel ≢ which.Machine = search rules
    in let third : which.Kernel ≢ which.Trace = search rules
    in let made : c.in_ok-files.files.files.kernel.name ≡ None = search rules
    in c.read_limited-3.ensures.others.same_name which.Kernel third ∙ c.read_limited-2.ensures.others.same_name which.Kernel second ∙ c.read_limited.ensures.others.same_name which.Kernel first ∙ made
