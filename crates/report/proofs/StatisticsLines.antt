-- The statistics, line by line.
use Rattle.std.proofs.Common.{◌≡◌, ℕ, List, [], ◌++◌, length, flat_map, codes, true, if◌then◌else◌, sym, ◌∙◌, ap, append_assoc}
use Rattle.std.proofs.lemmas.List.{append-nil}
use Rattle.pei_types.specs.declared.events.Event.{Event}
use Rattle.pei_types.specs.Texts.{count_of, stat_line, stat_lines, is_load, is_store, is_issue, is_host_place, is_memory_place, is_read, is_seal, is_any_act, is_fence_begin, is_race, is_invalidate, is_downgrade, is_evict_l1, is_clean_event, is_evict_llc, is_fill, is_grant_s, is_grant_e, is_grant_m}
use Rattle.pei_types.specs.Program.{Listing}
use Rattle.journal.specs.declared.stats.Stats.{Stats}
use Rattle.journal.specs.Counted.{stats_of}
use Rattle.report.specs.Shown.{asked_stats}
use Rattle.report.specs.Rows.{rows_of, row_line}

-- twenty lists, grouped to the left or to the right
regrouped : (a b c d e f g h i j k l m n o p q r s t : List ℕ) → a ++ b ++ c ++ d ++ e ++ f ++ g ++ h ++ i ++ j ++ k ++ l ++ m ++ n ++ o ++ p ++ q ++ r ++ s ++ t ≡ a ++ (b ++ (c ++ (d ++ (e ++ (f ++ (g ++ (h ++ (i ++ (j ++ (k ++ (l ++ (m ++ (n ++ (o ++ (p ++ (q ++ (r ++ (s ++ (t ++ [])))))))))))))))))))
regrouped a b c d e f g h i j k l m n o p q r s t = simp (append_assoc, append-nil)

stats_by_row : (journal : List Event) → flat_map row_line (rows_of (stats_of journal)) ≡ stat_lines journal
stats_by_row journal =
    sym (regrouped
    (stat_line (codes "events") (length journal))
    (stat_line (codes "loads") (count_of is_load journal))
    (stat_line (codes "stores") (count_of is_store journal))
    (stat_line (codes "issues") (count_of is_issue journal))
    (stat_line (codes "host") (count_of is_host_place journal))
    (stat_line (codes "memory") (count_of is_memory_place journal))
    (stat_line (codes "reads") (count_of is_read journal))
    (stat_line (codes "seals") (count_of is_seal journal))
    (stat_line (codes "acts") (count_of is_any_act journal))
    (stat_line (codes "fences") (count_of is_fence_begin journal))
    (stat_line (codes "races") (count_of is_race journal))
    (stat_line (codes "inv") (count_of is_invalidate journal))
    (stat_line (codes "down") (count_of is_downgrade journal))
    (stat_line (codes "evict1") (count_of is_evict_l1 journal))
    (stat_line (codes "clean") (count_of is_clean_event journal))
    (stat_line (codes "evict2") (count_of is_evict_llc journal))
    (stat_line (codes "fill") (count_of is_fill journal))
    (stat_line (codes "grants") (count_of is_grant_s journal))
    (stat_line (codes "grante") (count_of is_grant_e journal))
    (stat_line (codes "grantm") (count_of is_grant_m journal)))

-- those of a program that asks for them
pub stats_asked : (p : Listing) (journal : List Event) (s : Stats) → s ≡ stats_of journal → p.statistics ≡ true → flat_map row_line (rows_of s) ≡ asked_stats p journal
stats_asked p journal s same asked = ap (λ x. flat_map row_line (rows_of x)) same ∙ stats_by_row journal ∙ ap (λ b. if b then stat_lines journal else []) (sym asked)
