use Rattle.std.proofs.Common.{◌∙◌, ap}
use Rattle.pei_asm.specs.Sources.{place_in}
use Rattle.pei_asm.proofs.Lookups.{lookup_bytes}
use Rattle.pei_asm.proofs.labels.Labels.place.Goals as goal

pub returns : goal.returns
returns c =
    c.copied.ensures ∙ c.get.ensures.value ∙ lookup_bytes c.args.label.now c.self.inside.places.entries ∙ ap (λ labels. place_in labels c.args.label.now) c.self.view_is
