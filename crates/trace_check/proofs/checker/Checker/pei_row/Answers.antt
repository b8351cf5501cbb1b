use Rattle.std.proofs.Common.{ℕ, Some, None, if◌then◌else◌, slice_get, ◌∙◌, ap}
use Rattle.pei_types.specs.declared.operations.Place.{Place}
use Rattle.pei_types.specs.declared.operations.Reply.{Reply}
use Rattle.pei_types.specs.declared.events.EventKind.TheVariants as event
use Rattle.pei_types.specs.MachineState.{queue_is_full, queue_of}
use Rattle.pmu_dispatch.specs.Shown.{ArePeisLooksOf}
use Rattle.trace_check.specs.InState.{made}
use Rattle.trace_check.specs.CheckerParts.{content_of, state_of}
use Rattle.trace_check.proofs.Rows.{message_event}
use Rattle.trace_check.proofs.checker.Checker.pei_row.Goals as goal

pub returns-in-Stall : goal.returns-in-Stall
returns-in-Stall c =
    let v = c.args.self.now
    in let p = c.args.pei.now
    in let shown : ArePeisLooksOf v.machine (state_of v) c.looks-looks.result p c.first_unentered-first.result c.full_vault-full.result c.head-head.result = record { block_looks = record { taken = c.looks-looks.ensures.taken; core = c.looks-looks.ensures.own; block = c.looks-looks.ensures.block }; unentered = c.first_unentered-first.ensures; queue = c.full_vault-full.ensures ∙ ap (λ (n : ℕ). if queue_is_full v.machine (state_of v) n then Some n else None) c.vault_of-vault.ensures.vault; queue_head = c.head-head.ensures ∙ ap (λ (n : ℕ). slice_get (queue_of (state_of v) n) 0) c.vault_of-vault.ensures.vault }
    in ap made (c.in-Stall.ensures v.machine (state_of v) (content_of v) shown)

pub returns-in-Place : goal.returns-in-Place
returns-in-Place c =
    let v = c.args.self.now
    in let p = c.args.pei.now
    in let shown : ArePeisLooksOf v.machine (state_of v) c.looks-looks.result p c.first_unentered-first.result c.full_vault-full.result c.head-head.result = record { block_looks = record { taken = c.looks-looks.ensures.taken; core = c.looks-looks.ensures.own; block = c.looks-looks.ensures.block }; unentered = c.first_unentered-first.ensures; queue = c.full_vault-full.ensures ∙ ap (λ (n : ℕ). if queue_is_full v.machine (state_of v) n then Some n else None) c.vault_of-vault.ensures.vault; queue_head = c.head-head.ensures ∙ ap (λ (n : ℕ). slice_get (queue_of (state_of v) n) 0) c.vault_of-vault.ensures.vault }
    in ap (λ (w : Place). Some (event.Place p.id.seq w)) c.placement.ensures ∙ ap made (c.in-Place.ensures v.machine (state_of v) (content_of v) shown)

pub returns-in-Read : goal.returns-in-Read
returns-in-Read c =
    let v = c.args.self.now
    in let p = c.args.pei.now
    in let shown : ArePeisLooksOf v.machine (state_of v) c.looks-looks.result p c.first_unentered-first.result c.full_vault-full.result c.head-head.result = record { block_looks = record { taken = c.looks-looks.ensures.taken; core = c.looks-looks.ensures.own; block = c.looks-looks.ensures.block }; unentered = c.first_unentered-first.ensures; queue = c.full_vault-full.ensures ∙ ap (λ (n : ℕ). if queue_is_full v.machine (state_of v) n then Some n else None) c.vault_of-vault.ensures.vault; queue_head = c.head-head.ensures ∙ ap (λ (n : ℕ). slice_get (queue_of (state_of v) n) 0) c.vault_of-vault.ensures.vault }
    in ap made (c.in-Read.ensures v.machine (state_of v) (content_of v) shown)

pub returns-in-Seal : goal.returns-in-Seal
returns-in-Seal c =
    let v = c.args.self.now
    in let p = c.args.pei.now
    in let shown : ArePeisLooksOf v.machine (state_of v) c.looks-looks.result p c.first_unentered-first.result c.full_vault-full.result c.head-head.result = record { block_looks = record { taken = c.looks-looks.ensures.taken; core = c.looks-looks.ensures.own; block = c.looks-looks.ensures.block }; unentered = c.first_unentered-first.ensures; queue = c.full_vault-full.ensures ∙ ap (λ (n : ℕ). if queue_is_full v.machine (state_of v) n then Some n else None) c.vault_of-vault.ensures.vault; queue_head = c.head-head.ensures ∙ ap (λ (n : ℕ). slice_get (queue_of (state_of v) n) 0) c.vault_of-vault.ensures.vault }
    in ap (λ (n : ℕ). Some (event.Seal p.id.seq n)) c.vault_of-vault.ensures.vault ∙ ap made (c.in-Seal.ensures v.machine (state_of v) (content_of v) shown)

pub returns-in-Act : goal.returns-in-Act
returns-in-Act c =
    let v = c.args.self.now
    in let p = c.args.pei.now
    in let shown : ArePeisLooksOf v.machine (state_of v) c.looks-looks.result p c.first_unentered-first.result c.full_vault-full.result c.head-head.result = record { block_looks = record { taken = c.looks-looks.ensures.taken; core = c.looks-looks.ensures.own; block = c.looks-looks.ensures.block }; unentered = c.first_unentered-first.ensures; queue = c.full_vault-full.ensures ∙ ap (λ (n : ℕ). if queue_is_full v.machine (state_of v) n then Some n else None) c.vault_of-vault.ensures.vault; queue_head = c.head-head.ensures ∙ ap (λ (n : ℕ). slice_get (queue_of (state_of v) n) 0) c.vault_of-vault.ensures.vault }
    in ap (λ (r : Reply). Some (event.Act p.id.seq r)) c.reply_of.ensures ∙ ap made (c.in-Act.ensures v.machine (state_of v) (content_of v) shown)

pub returns-in-Leave : goal.returns-in-Leave
returns-in-Leave c =
    let v = c.args.self.now
    in let p = c.args.pei.now
    in let shown : ArePeisLooksOf v.machine (state_of v) c.looks-looks.result p c.first_unentered-first.result c.full_vault-full.result c.head-head.result = record { block_looks = record { taken = c.looks-looks.ensures.taken; core = c.looks-looks.ensures.own; block = c.looks-looks.ensures.block }; unentered = c.first_unentered-first.ensures; queue = c.full_vault-full.ensures ∙ ap (λ (n : ℕ). if queue_is_full v.machine (state_of v) n then Some n else None) c.vault_of-vault.ensures.vault; queue_head = c.head-head.ensures ∙ ap (λ (n : ℕ). slice_get (queue_of (state_of v) n) 0) c.vault_of-vault.ensures.vault }
    in ap made (c.in-Leave.ensures v.machine (state_of v) (content_of v) shown)

pub returns-in-Message : goal.returns-in-Message
returns-in-Message c =
    let v = c.args.self.now
    in let p = c.args.pei.now
    in let shown : ArePeisLooksOf v.machine (state_of v) c.looks-looks.result p c.first_unentered-first.result c.full_vault-full.result c.head-head.result = record { block_looks = record { taken = c.looks-looks.ensures.taken; core = c.looks-looks.ensures.own; block = c.looks-looks.ensures.block }; unentered = c.first_unentered-first.ensures; queue = c.full_vault-full.ensures ∙ ap (λ (n : ℕ). if queue_is_full v.machine (state_of v) n then Some n else None) c.vault_of-vault.ensures.vault; queue_head = c.head-head.ensures ∙ ap (λ (n : ℕ). slice_get (queue_of (state_of v) n) 0) c.vault_of-vault.ensures.vault }
    in message_event c.in-Message.message _ (c.in-Message.ensures v.machine (state_of v) (content_of v) shown)
