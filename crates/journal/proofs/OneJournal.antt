-- No two events have the same line, and no two journals the same trace.
use Rattle.std.proofs.Common.{◌≡◌, ℕ, ◌^◌, ◌<◌, ◌≤◌, ◌/◌, ◌%◌, ◌+◌, ◌*◌, ◌&&◌, ◌==◌, true, not, true≢false, if◌then◌else◌, List, [], ◌∷◌, ◌++◌, codes, decimal, drop, flat_map, get_or, length, map, nat_lt, nat_le, refl, subst, sym, ◌∙◌, ap, lit≤, arith}
use Rattle.std.specs.List.{list_all}
use Rattle.std.proofs.lemmas.Bool.{and_parts, ltb-true, leb-true, lt-ltb}
use Rattle.std.proofs.lemmas.Fmt.{decimal_injective}
use Rattle.std.proofs.Math.Seq.{drop-append_seam}
use Rattle.pei_types.specs.declared.identifiers.BlockNo.{BlockNo}
use Rattle.pei_types.specs.declared.identifiers.CoreId.{CoreId}
use Rattle.pei_types.specs.declared.identifiers.Lane.{Lane}
use Rattle.pei_types.specs.declared.identifiers.PeiId.{PeiId}
use Rattle.pei_types.specs.declared.calls.EndKind.{EndKind}
use Rattle.pei_types.specs.declared.calls.EndKind.TheVariants as ends
use Rattle.pei_types.specs.declared.calls.TrapCause.{TrapCause}
use Rattle.pei_types.specs.declared.calls.TrapCause.TheVariants as cause
use Rattle.pei_types.specs.declared.events.Event.{Event}
use Rattle.pei_types.specs.declared.events.EventKind.{EventKind}
use Rattle.pei_types.specs.declared.events.EventKind.TheVariants as event
use Rattle.pei_types.specs.declared.operations.Op.{Op}
use Rattle.pei_types.specs.declared.operations.Op.TheVariants as op
use Rattle.pei_types.specs.declared.operations.Operands.{Operands}
use Rattle.pei_types.specs.declared.operations.Place.{Place}
use Rattle.pei_types.specs.declared.operations.Place.TheVariants as place
use Rattle.pei_types.specs.declared.operations.Reply.{Reply}
use Rattle.pei_types.specs.Texts.{cause_word, end_words, event_line, event_words, op_words, place_word}
use Rattle.journal.specs.Named.{end_word, end_word_spelt, message_word, message_word_spelt, mnemonic, mnemonic_spelt, op_address, pei_word, pei_word_spelt, program_word, program_word_spelt}
use Rattle.journal.specs.Traces.{copy_in_ranges, end_in_ranges, in_ranges, is_index, is_word, kind_in_ranges, op_in_ranges, race_in_ranges, reply_in_ranges, IsTrace}
use Rattle.journal.specs.Words.{args_of, first_word, name_of, is_plain, is_separator, words_then}
use Rattle.journal.proofs.Addresses.{address_small, ranges, block_back}
use Rattle.journal.proofs.BodyLines.{header, line_some}
use Rattle.journal.proofs.EventLines.{event_then}
use Rattle.journal.proofs.Leading.{index_is_word, number_plain, small_is_word}
use Rattle.journal.proofs.Naming as naming

-- ---- a word and the byte behind it

apart : {A : Type 0} (x e : ℕ) → is_plain x ≡ true → is_separator e ≡ true → x ≡ e → A
apart x e plain separates same =
    let separated : is_separator x ≡ true = ap is_separator same ∙ separates
    in absurd (true≢false (sym plain ∙ ap not separated))

word_split : (w v : List ℕ) (e d : ℕ) (m n : List ℕ) → list_all is_plain w ≡ true → list_all is_plain v ≡ true → is_separator e ≡ true → is_separator d ≡ true → w ++ e ∷ m ≡ v ++ d ∷ n → (w ≡ v) × (e ∷ m ≡ d ∷ n)
word_split [] [] e d m n pw pv se sd h = (refl, h)
word_split [] (y ∷ v) e d m n pw pv se sd h = let first : y ≡ e = cc h in apart y e (and_parts (is_plain y) (list_all is_plain v) pv).0 se first
word_split (x ∷ w) [] e d m n pw pv se sd h = let first : x ≡ d = cc h in apart x d (and_parts (is_plain x) (list_all is_plain w) pw).0 sd first
word_split (x ∷ w) (y ∷ v) e d m n pw pv se sd h =
    let first : x ≡ y = cc h
    in let rest : w ++ e ∷ m ≡ v ++ d ∷ n = cc h
    in let t = word_split w v e d m n (and_parts (is_plain x) (list_all is_plain w) pw).1 (and_parts (is_plain y) (list_all is_plain v) pv).1 se sd rest
    in let words : x ∷ w ≡ y ∷ v = ap (λ k. k ∷ w) first ∙ ap (λ ks. y ∷ ks) t.0
    in (words, t.1)

-- no byte of a word ends one, nor of any of these words
record Plain (word : List ℕ) : Type 0 where
  all : list_all is_plain word ≡ true

record ArePlain (words : List (List ℕ)) : Type 0 where
  all : list_all (list_all is_plain) words ≡ true

words_split : (w v : List ℕ) (ws vs : List (List ℕ)) (m n : List ℕ) → ArePlain (w ∷ ws) → ArePlain (v ∷ vs) → words_then (w ∷ ws) m ≡ words_then (v ∷ vs) n → (w ∷ ws ≡ v ∷ vs) × (m ≡ n)
words_split w v [] [] m n pw pv h =
    let t = word_split w v 10 10 m n (and_parts (list_all is_plain w) true pw.all).0 (and_parts (list_all is_plain v) true pv.all).0 refl refl h
    in let behind : m ≡ n = cc t.1
    in (ap (λ k. k ∷ []) t.0, behind)
words_split w v [] (v2 ∷ vs) m n pw pv h =
    let t = word_split w v 10 32 m (words_then (v2 ∷ vs) n) (and_parts (list_all is_plain w) true pw.all).0 (and_parts (list_all is_plain v) (list_all (list_all is_plain) (v2 ∷ vs)) pv.all).0 refl refl h
    in let ten : ℕ = 10 in let ends : ten ≡ 32 = cc t.1
    in absurd (omega (arith, ends))
words_split w v (w2 ∷ ws) [] m n pw pv h =
    let t = word_split w v 32 10 (words_then (w2 ∷ ws) m) n (and_parts (list_all is_plain w) (list_all (list_all is_plain) (w2 ∷ ws)) pw.all).0 (and_parts (list_all is_plain v) true pv.all).0 refl refl h
    in let space : ℕ = 32 in let ends : space ≡ 10 = cc t.1
    in absurd (omega (arith, ends))
words_split w v (w2 ∷ ws) (v2 ∷ vs) m n pw pv h =
    let p = and_parts (list_all is_plain w) (list_all (list_all is_plain) (w2 ∷ ws)) pw.all
    in let q = and_parts (list_all is_plain v) (list_all (list_all is_plain) (v2 ∷ vs)) pv.all
    in let t = word_split w v 32 32 (words_then (w2 ∷ ws) m) (words_then (v2 ∷ vs) n) p.0 q.0 refl refl h
    in let rest : words_then (w2 ∷ ws) m ≡ words_then (v2 ∷ vs) n = cc t.1
    in let u = words_split w2 v2 ws vs m n (record { all = p.1 }) (record { all = q.1 }) rest
    in (ap (λ k. k ∷ w2 ∷ ws) t.0 ∙ ap (λ ks. v ∷ ks) u.0, u.1)

-- ---- numbers

number : (a b : ℕ) → is_word a ≡ true → is_word b ≡ true → decimal a ≡ decimal b → a ≡ b
number a b ra rb h = decimal_injective a b (ltb-true a (2 ^ 64) ra) (ltb-true b (2 ^ 64) rb) h

index : (a b : ℕ) → is_index a ≡ true → is_index b ≡ true → decimal a ≡ decimal b → a ≡ b
index a b ra rb h = number a b (index_is_word a ra) (index_is_word b rb) h

small : (most a b : ℕ) → most ≤ 2 ^ 64 → nat_lt a most ≡ true → nat_lt b most ≡ true → decimal a ≡ decimal b → a ≡ b
small most a b room ra rb h = number a b (small_is_word a most room ra) (small_is_word b most room rb) h

numbers : (ns ms : List ℕ) → list_all is_word ns ≡ true → list_all is_word ms ≡ true → map decimal ns ≡ map decimal ms → ns ≡ ms
numbers [] [] ra rb h = refl
numbers [] (b ∷ ms) ra rb h = absurd (cc h)
numbers (a ∷ ns) [] ra rb h = absurd (cc h)
numbers (a ∷ ns) (b ∷ ms) ra rb h =
    let p = and_parts (is_word a) (list_all is_word ns) ra
    in let q = and_parts (is_word b) (list_all is_word ms) rb
    in let first : decimal a ≡ decimal b = cc h
    in let rest : map decimal ns ≡ map decimal ms = cc h
    in ap (λ k. k ∷ ns) (number a b p.0 q.0 first) ∙ ap (λ ks. b ∷ ks) (numbers ns ms p.1 q.1 rest)

to_block : ℕ → BlockNo
to_block n = record { 0 = n }

to_core : ℕ → CoreId
to_core n = record { 0 = n }

block : (a b : BlockNo) → is_index a.0 ≡ true → is_index b.0 ≡ true → decimal a.0 ≡ decimal b.0 → a ≡ b
unfolding to_block
block a b ra rb h = ap to_block (index a.0 b.0 ra rb h)

core : (a b : CoreId) → nat_lt a.0 8 ≡ true → nat_lt b.0 8 ≡ true → decimal a.0 ≡ decimal b.0 → a ≡ b
unfolding to_core
core a b ra rb h = ap to_core (small 8 a.0 b.0 (lit≤ tt) ra rb h)

-- ---- words that are plain

plain_none : ArePlain []
plain_none = record { all = refl }

plain_on : (w : List ℕ) (ws : List (List ℕ)) → Plain w → ArePlain ws → ArePlain (w ∷ ws)
plain_on w ws h k = record { all = ap (λ b. b && list_all (list_all is_plain) ws) h.all ∙ k.all }

plain_number : (n : ℕ) → is_word n ≡ true → Plain (decimal n)
plain_number n h = record { all = number_plain n (ltb-true n (2 ^ 64) h) }

plain_numbers : (ns : List ℕ) → list_all is_word ns ≡ true → ArePlain (map decimal ns)
plain_numbers [] h = plain_none
plain_numbers (n ∷ ns) h =
    let p = and_parts (is_word n) (list_all is_word ns) h
    in plain_on (decimal n) (map decimal ns) (plain_number n p.0) (plain_numbers ns p.1)

plain_index : (n : ℕ) → is_index n ≡ true → Plain (decimal n)
plain_index n h = plain_number n (index_is_word n h)

plain_small : (most n : ℕ) → most ≤ 2 ^ 64 → nat_lt n most ≡ true → Plain (decimal n)
plain_small most n room h = plain_number n (small_is_word n most room h)

plain_copy : (c : CoreId) (b : BlockNo) → copy_in_ranges c b ≡ true → ArePlain (decimal c.0 ∷ decimal b.0 ∷ [])
plain_copy c b h =
    let p = and_parts (nat_lt c.0 8) (is_index b.0) h
    in plain_on _ _ (plain_small 8 c.0 (lit≤ tt) p.0) (plain_on _ [] (plain_index b.0 p.1) plain_none)

plain_race : (pc : ℕ) (b : BlockNo) (by : PeiId) → race_in_ranges pc b by ≡ true → ArePlain (decimal pc ∷ decimal b.0 ∷ decimal by.core.0 ∷ decimal by.seq ∷ [])
plain_race pc b by h =
    let p = and_parts (is_index pc && is_index b.0 && nat_lt by.core.0 8) (is_index by.seq) h
    in let q = and_parts (is_index pc && is_index b.0) (nat_lt by.core.0 8) p.0
    in let r = and_parts (is_index pc) (is_index b.0) q.0
    in plain_on _ _ (plain_index pc r.0) (plain_on _ _ (plain_index b.0 r.1) (plain_on _ _ (plain_small 8 by.core.0 (lit≤ tt) q.1) (plain_on _ [] (plain_index by.seq p.1) plain_none)))

plain_cause : (why : TrapCause) → Plain (cause_word why)
plain_cause cause.Pc = record { all = refl }
plain_cause _ = record { all = refl }

plain_place : (where_to : Place) → Plain (place_word where_to)
plain_place place.Host = record { all = refl }
plain_place place.Memory = record { all = refl }

plain_end : (how : EndKind) → end_in_ranges how ≡ true → ArePlain (end_words how)
plain_end ends.Halt h = record { all = refl }
plain_end (ends.Trap pc why) h = plain_on (codes "trap") _ (record { all = refl }) (plain_on _ _ (plain_index pc h) (plain_on _ [] (plain_cause why) plain_none))
plain_end (ends.Race pc b by) h = plain_on (codes "race") _ (record { all = refl }) (plain_race pc b by h)
plain_end ends.Fuel h = record { all = refl }

-- the words of an operation are its mnemonic and its address
op_spelt : (o : Op) (b : BlockNo) → op_words o b ≡ first_word (op_words o b) ∷ decimal (op_address o b) ∷ []
op_spelt op.Probe b = refl
op_spelt _ b = refl

plain_mnemonic : (o : Op) (b : BlockNo) → Plain (first_word (op_words o b))
plain_mnemonic op.Probe b = record { all = refl }
plain_mnemonic _ b = record { all = refl }

address_is_word : (o : Op) (b : BlockNo) → op_in_ranges o ≡ true → b.0 < 65536 → is_word (op_address o b) ≡ true
address_is_word o b fits near = let low = address_small o b fits near in lt-ltb (op_address o b) (2 ^ 64) (omega (arith, low))

plain_issue : (seq : ℕ) (lane : Lane) (o : Op) (b : BlockNo) (operands : Operands) → kind_in_ranges (event.Issue seq lane o b operands) ≡ true → ArePlain (decimal seq ∷ decimal lane.0 ∷ op_words o b ++ map decimal operands.0)
plain_issue seq lane o b operands h =
    let r = ranges seq lane o b operands h
    in let words = and_parts (length operands.0 == 4) (list_all is_word operands.0) r.small
    in let spelt : ArePlain (first_word (op_words o b) ∷ decimal (op_address o b) ∷ map decimal operands.0) =
    plain_on _ _ (plain_mnemonic o b) (plain_on _ _ (plain_number (op_address o b) (address_is_word o b r.fits r.near)) (plain_numbers operands.0 words.1))
    in plain_on _ _ (plain_index seq r.numbered) (plain_on _ _ (plain_small 5 lane.0 (lit≤ tt) r.within)
    (subst ArePlain (ap (λ ws. ws ++ map decimal operands.0) (sym (op_spelt o b))) spelt))

-- the parts of a reply's ranges
record Replied (reply : Reply) : Type 0 where
  short : nat_lt reply.len 3 ≡ true
  small : list_all is_word reply.words ≡ true

replied : (reply : Reply) → reply_in_ranges reply ≡ true → Replied reply
replied reply h =
    let p = and_parts (nat_le reply.len 2 && (length reply.words == 2) && list_all is_word reply.words) (list_all (λ w. w == 0) (drop reply.len reply.words)) h
    in let q = and_parts (nat_le reply.len 2 && (length reply.words == 2)) (list_all is_word reply.words) p.0
    in let r = and_parts (nat_le reply.len 2) (length reply.words == 2) q.0
    in let low : reply.len ≤ 2 = leb-true reply.len 2 r.0
    in record { short = lt-ltb reply.len 3 (omega (arith, low)); small = q.1 }

words_plain : (k : EventKind) → kind_in_ranges k ≡ true → ArePlain (event_words k)
words_plain (event.Load addr value) h = let p = and_parts (is_word addr) (is_word value) h in plain_on (codes "load") _ (record { all = refl }) (plain_on _ _ (plain_number addr p.0) (plain_on _ [] (plain_number value p.1) plain_none))
words_plain (event.Store addr value) h = let p = and_parts (is_word addr) (is_word value) h in plain_on (codes "store") _ (record { all = refl }) (plain_on _ _ (plain_number addr p.0) (plain_on _ [] (plain_number value p.1) plain_none))
words_plain (event.Issue seq lane o b operands) h = plain_on (codes "issue") _ (record { all = refl }) (plain_issue seq lane o b operands h)
words_plain event.FenceBegin h = record { all = refl }
words_plain event.FenceEnd h = record { all = refl }
words_plain (event.Out value) h = plain_on (codes "out") _ (record { all = refl }) (plain_on _ [] (plain_number value h) plain_none)
words_plain (event.Race pc b by) h = plain_on (codes "race") _ (record { all = refl }) (plain_race pc b by h)
words_plain (event.End kind) h = plain_on (codes "end") _ (record { all = refl }) (plain_end kind h)
words_plain (event.Enter seq) h = plain_on (codes "enter") _ (record { all = refl }) (plain_on _ [] (plain_index seq h) plain_none)
words_plain (event.Place seq where_to) h = plain_on (codes "place") _ (record { all = refl }) (plain_on _ _ (plain_index seq h) (plain_on _ [] (plain_place where_to) plain_none))
words_plain (event.Read seq) h = plain_on (codes "read") _ (record { all = refl }) (plain_on _ [] (plain_index seq h) plain_none)
words_plain (event.Seal seq vault) h = let p = and_parts (is_index seq) (nat_lt vault 16) h in plain_on (codes "seal") _ (record { all = refl }) (plain_on _ _ (plain_index seq p.0) (plain_on _ [] (plain_small 16 vault (lit≤ tt) p.1) plain_none))
words_plain (event.Act seq reply) h =
    let p = and_parts (is_index seq) (reply_in_ranges reply) h
    in let r = replied reply p.1
    in plain_on (codes "act") _ (record { all = refl }) (plain_on _ _ (plain_index seq p.0) (plain_on _ _ (plain_small 3 reply.len (lit≤ tt) r.short) (plain_numbers reply.words r.small)))
words_plain (event.Leave seq) h = plain_on (codes "leave") _ (record { all = refl }) (plain_on _ [] (plain_index seq h) plain_none)
words_plain (event.Invalidate c b) h = plain_on (codes "inv") _ (record { all = refl }) (plain_copy c b h)
words_plain (event.Downgrade c b) h = plain_on (codes "down") _ (record { all = refl }) (plain_copy c b h)
words_plain (event.EvictL1 c b) h = plain_on (codes "evict1") _ (record { all = refl }) (plain_copy c b h)
words_plain (event.Clean b) h = plain_on (codes "clean") _ (record { all = refl }) (plain_on _ [] (plain_index b.0 h) plain_none)
words_plain (event.EvictLlc b) h = plain_on (codes "evict2") _ (record { all = refl }) (plain_on _ [] (plain_index b.0 h) plain_none)
words_plain (event.Fill b) h = plain_on (codes "fill") _ (record { all = refl }) (plain_on _ [] (plain_index b.0 h) plain_none)
words_plain (event.GrantS b) h = plain_on (codes "grants") _ (record { all = refl }) (plain_on _ [] (plain_index b.0 h) plain_none)
words_plain (event.GrantE b) h = plain_on (codes "grante") _ (record { all = refl }) (plain_on _ [] (plain_index b.0 h) plain_none)
words_plain (event.GrantM b) h = plain_on (codes "grantm") _ (record { all = refl }) (plain_on _ [] (plain_index b.0 h) plain_none)

-- ---- the parts of events with the same words

to_pei : CoreId → ℕ → PeiId
to_pei c n = record { core = c; seq = n }

race_same : (pc pd : ℕ) (b d : BlockNo) (by from : PeiId) → race_in_ranges pc b by ≡ true → race_in_ranges pd d from ≡ true → decimal pc ≡ decimal pd → decimal b.0 ≡ decimal d.0 → decimal by.core.0 ≡ decimal from.core.0 → decimal by.seq ≡ decimal from.seq → (pc ≡ pd) × (b ≡ d) × (by ≡ from)
unfolding to_pei
race_same pc pd b d by from h k e1 e2 e3 e4 =
    let p = and_parts (is_index pc && is_index b.0 && nat_lt by.core.0 8) (is_index by.seq) h
    in let q = and_parts (is_index pc && is_index b.0) (nat_lt by.core.0 8) p.0
    in let r = and_parts (is_index pc) (is_index b.0) q.0
    in let p2 = and_parts (is_index pd && is_index d.0 && nat_lt from.core.0 8) (is_index from.seq) k
    in let q2 = and_parts (is_index pd && is_index d.0) (nat_lt from.core.0 8) p2.0
    in let r2 = and_parts (is_index pd) (is_index d.0) q2.0
    in (index pc pd r.0 r2.0 e1, block b d r.1 r2.1 e2, ap (λ c. to_pei c by.seq) (core by.core from.core q.1 q2.1 e3) ∙ ap (to_pei from.core) (index by.seq from.seq p.1 p2.1 e4))

byte_of : List ℕ → ℕ
byte_of word = get_or word 0 0

cause_at : ℕ → TrapCause
cause_at byte = if byte == 112 then cause.Pc else if byte == 97 then cause.Align else if byte == 114 then cause.Range else cause.Shift

cause_back : (why : TrapCause) → cause_at (byte_of (cause_word why)) ≡ why
unfolding cause_at byte_of
cause_back cause.Pc = refl
cause_back cause.Align = refl
cause_back cause.Range = refl
cause_back cause.Shift = refl

cause_same : (why other : TrapCause) → cause_word why ≡ cause_word other → why ≡ other
cause_same why other h = sym (cause_back why) ∙ ap (λ w. cause_at (byte_of w)) h ∙ cause_back other

place_at : ℕ → Place
place_at byte = if byte == 104 then place.Host else place.Memory

place_back : (where_to : Place) → place_at (byte_of (place_word where_to)) ≡ where_to
unfolding place_at byte_of
place_back place.Host = refl
place_back place.Memory = refl

place_same : (where_to other : Place) → place_word where_to ≡ place_word other → where_to ≡ other
place_same where_to other h = sym (place_back where_to) ∙ ap (λ w. place_at (byte_of w)) h ∙ place_back other

end_same : (how other : EndKind) → end_in_ranges how ≡ true → end_in_ranges other ≡ true → end_words how ≡ end_words other → how ≡ other
end_same how other h k e = by how h named e
  where
    named : end_word other ≡ end_word how
    named = sym (naming.end_found other) ∙ ap (λ ws. end_word_spelt (first_word ws)) (sym e) ∙ naming.end_found how

    by : (how : EndKind) → end_in_ranges how ≡ true → end_word other ≡ end_word how → end_words how ≡ end_words other → how ≡ other
    by ends.Halt h n e = naming.is_end_word_halt (λ x. ends.Halt ≡ x) other n refl
    by ends.Fuel h n e = naming.is_end_word_fuel (λ x. ends.Fuel ≡ x) other n refl
    by (ends.Trap pc why) h n e =
        naming.is_end_word_trap (λ x. end_in_ranges x ≡ true → end_words (ends.Trap pc why) ≡ end_words x → ends.Trap pc why ≡ x) other n
        (λ pd also r w. let first : pc ≡ pd = index pc pd h r (cc w) in let second : why ≡ also = cause_same why also (cc w) in cc) k e
    by (ends.Race pc b from) h n e =
        naming.is_end_word_race (λ x. end_in_ranges x ≡ true → end_words (ends.Race pc b from) ≡ end_words x → ends.Race pc b from ≡ x) other n
        (λ pd d also r w.
        let t = race_same pc pd b d from also h r (cc w) (cc w) (cc w) (cc w)
        in let first : pc ≡ pd = t.0 in let second : b ≡ d = t.1 in let third : from ≡ also = t.2 in cc) k e

-- ---- issues

to_op : Op → ℕ → Op
to_op (op.Inc word) addr = op.Inc (addr / 8 % 8)
to_op (op.Min word) addr = op.Min (addr / 8 % 8)
to_op op.Probe addr = op.Probe
to_op op.Hist addr = op.Hist
to_op op.Dot addr = op.Dot

op_back : (o : Op) (b : BlockNo) → op_in_ranges o ≡ true → to_op o (op_address o b) ≡ o
unfolding to_op
op_back (op.Inc word) b fits = let low : word < 8 = ltb-true word 8 fits in let is : (64 * b.0 + 8 * word) / 8 % 8 ≡ word = omega arith in ap (λ (n : ℕ). op.Inc n) is
op_back (op.Min word) b fits = let low : word < 8 = ltb-true word 8 fits in let is : (64 * b.0 + 8 * word) / 8 % 8 ≡ word = omega arith in ap (λ (n : ℕ). op.Min n) is
op_back op.Probe b fits = refl
op_back op.Hist b fits = refl
op_back op.Dot b fits = refl

kind_of_op : (o p : Op) (addr : ℕ) → mnemonic o ≡ mnemonic p → to_op o addr ≡ to_op p addr
unfolding to_op
kind_of_op (op.Inc word) p addr n = naming.is_mnemonic_pinc (λ x. to_op (op.Inc word) addr ≡ to_op x addr) p (sym n) (λ w. refl)
kind_of_op (op.Min word) p addr n = naming.is_mnemonic_pmin (λ x. to_op (op.Min word) addr ≡ to_op x addr) p (sym n) (λ w. refl)
kind_of_op op.Probe p addr n = naming.is_mnemonic_pprobe (λ x. to_op op.Probe addr ≡ to_op x addr) p (sym n) refl
kind_of_op op.Hist p addr n = naming.is_mnemonic_phist (λ x. to_op op.Hist addr ≡ to_op x addr) p (sym n) refl
kind_of_op op.Dot p addr n = naming.is_mnemonic_pdot (λ x. to_op op.Dot addr ≡ to_op x addr) p (sym n) refl

to_lane : ℕ → Lane
to_lane n = record { 0 = n }

to_operands : List ℕ → Operands
to_operands words = record { 0 = words }

issue_same : (seq : ℕ) (lane : Lane) (o : Op) (b : BlockNo) (operands : Operands) (seq2 : ℕ) (lane2 : Lane) (o2 : Op) (b2 : BlockNo) (operands2 : Operands) → kind_in_ranges (event.Issue seq lane o b operands) ≡ true → kind_in_ranges (event.Issue seq2 lane2 o2 b2 operands2) ≡ true → event_words (event.Issue seq lane o b operands) ≡ event_words (event.Issue seq2 lane2 o2 b2 operands2) → event.Issue seq lane o b operands ≡ event.Issue seq2 lane2 o2 b2 operands2
unfolding to_lane to_operands to_block
issue_same seq lane o b operands seq2 lane2 o2 b2 operands2 h k e =
    let r = ranges seq lane o b operands h
    in let r2 = ranges seq2 lane2 o2 b2 operands2 k
    in let rest : op_words o b ++ map decimal operands.0 ≡ op_words o2 b2 ++ map decimal operands2.0 = cc e
    in let spelt : first_word (op_words o b) ∷ decimal (op_address o b) ∷ map decimal operands.0 ≡ first_word (op_words o2 b2) ∷ decimal (op_address o2 b2) ∷ map decimal operands2.0 =
    sym (ap (λ ws. ws ++ map decimal operands.0) (op_spelt o b)) ∙ rest ∙ ap (λ ws. ws ++ map decimal operands2.0) (op_spelt o2 b2)
    in let word : first_word (op_words o b) ≡ first_word (op_words o2 b2) = cc spelt
    in let at : op_address o b ≡ op_address o2 b2 = number _ _ (address_is_word o b r.fits r.near) (address_is_word o2 b2 r2.fits r2.near) (cc spelt)
    in let named : mnemonic o ≡ mnemonic o2 = sym (naming.mnemonic_found o b) ∙ ap mnemonic_spelt word ∙ naming.mnemonic_found o2 b2
    in let e1 : seq ≡ seq2 = index seq seq2 r.numbered r2.numbered (cc e)
    in let e2 : lane ≡ lane2 = ap to_lane (small 5 lane.0 lane2.0 (lit≤ tt) r.within r2.within (cc e))
    in let e3 : o ≡ o2 = sym (op_back o b r.fits) ∙ kind_of_op o o2 (op_address o b) named ∙ ap (to_op o2) at ∙ op_back o2 b2 r2.fits
    in let e4 : b ≡ b2 = ap to_block (sym (block_back o b r.fits) ∙ ap (λ n. n / 64) at ∙ block_back o2 b2 r2.fits)
    in let words = and_parts (length operands.0 == 4) (list_all is_word operands.0) r.small
    in let words2 = and_parts (length operands2.0 == 4) (list_all is_word operands2.0) r2.small
    in let e5 : operands ≡ operands2 = ap to_operands (numbers operands.0 operands2.0 words.1 words2.1 (cc spelt))
    in cc (e1, e2, e3, e4, e5)

-- ---- events with the same words

named_program : (k j : EventKind) → event_words k ≡ event_words j → program_word j ≡ program_word k
named_program k j e = sym (naming.program_word_found j) ∙ ap (λ ws. program_word_spelt (first_word ws)) (sym e) ∙ naming.program_word_found k

named_pei : (k j : EventKind) → event_words k ≡ event_words j → pei_word j ≡ pei_word k
named_pei k j e = sym (naming.pei_word_found j) ∙ ap (λ ws. pei_word_spelt (first_word ws)) (sym e) ∙ naming.pei_word_found k

named_message : (k j : EventKind) → event_words k ≡ event_words j → message_word j ≡ message_word k
named_message k j e = sym (naming.message_word_found j) ∙ ap (λ ws. message_word_spelt (first_word ws)) (sym e) ∙ naming.message_word_found k

-- an event of these words is this one
abbrev Only : EventKind → EventKind → Type 0
Only k j = kind_in_ranges j ≡ true → event_words k ≡ event_words j → k ≡ j

copy_same : (c d : CoreId) (b a : BlockNo) → copy_in_ranges c b ≡ true → copy_in_ranges d a ≡ true → decimal c.0 ≡ decimal d.0 → decimal b.0 ≡ decimal a.0 → (c ≡ d) × (b ≡ a)
copy_same c d b a h k e f =
    let p = and_parts (nat_lt c.0 8) (is_index b.0) h
    in let q = and_parts (nat_lt d.0 8) (is_index a.0) k
    in (core c d p.0 q.0 e, block b a p.1 q.1 f)

two_same : (a b v w : ℕ) → (is_word a && is_word v) ≡ true → (is_word b && is_word w) ≡ true → decimal a ≡ decimal b → decimal v ≡ decimal w → (a ≡ b) × (v ≡ w)
two_same a b v w h k e f =
    let p = and_parts (is_word a) (is_word v) h
    in let q = and_parts (is_word b) (is_word w) k
    in (number a b p.0 q.0 e, number v w p.1 q.1 f)

to_reply : ℕ → List ℕ → Reply
to_reply len words = record { words = words; len = len }

reply_same : (r t : Reply) → reply_in_ranges r ≡ true → reply_in_ranges t ≡ true → decimal r.len ≡ decimal t.len → map decimal r.words ≡ map decimal t.words → r ≡ t
unfolding to_reply
reply_same r t h k e f =
    let p = replied r h
    in let q = replied t k
    in ap (λ n. to_reply n r.words) (small 3 r.len t.len (lit≤ tt) p.short q.short e) ∙ ap (to_reply t.len) (numbers r.words t.words p.small q.small f)

kind_same : (k j : EventKind) → kind_in_ranges k ≡ true → kind_in_ranges j ≡ true → event_words k ≡ event_words j → k ≡ j
kind_same (event.Load addr value) j h k e = naming.is_program_word_load (Only (event.Load addr value)) j (named_program (event.Load addr value) j e) (λ at put r w. let t = two_same addr at value put h r (cc w) (cc w) in let first : addr ≡ at = t.0 in let second : value ≡ put = t.1 in cc) k e
kind_same (event.Store addr value) j h k e = naming.is_program_word_store (Only (event.Store addr value)) j (named_program (event.Store addr value) j e) (λ at put r w. let t = two_same addr at value put h r (cc w) (cc w) in let first : addr ≡ at = t.0 in let second : value ≡ put = t.1 in cc) k e
kind_same (event.Issue seq lane o b operands) j h k e = naming.is_program_word_issue (Only (event.Issue seq lane o b operands)) j (named_program (event.Issue seq lane o b operands) j e) (λ seq2 lane2 o2 b2 operands2 r w. issue_same seq lane o b operands seq2 lane2 o2 b2 operands2 h r w) k e
kind_same event.FenceBegin j h k e = naming.is_program_word_fbegin (Only event.FenceBegin) j (named_program event.FenceBegin j e) (λ r w. refl) k e
kind_same event.FenceEnd j h k e = naming.is_program_word_fend (Only event.FenceEnd) j (named_program event.FenceEnd j e) (λ r w. refl) k e
kind_same (event.Out value) j h k e = naming.is_program_word_out (Only (event.Out value)) j (named_program (event.Out value) j e) (λ put r w. ap (λ (n : ℕ). event.Out n) (number value put h r (cc w))) k e
kind_same (event.Race pc b by) j h k e = naming.is_program_word_race (Only (event.Race pc b by)) j (named_program (event.Race pc b by) j e) (λ pd d from r w. let t = race_same pc pd b d by from h r (cc w) (cc w) (cc w) (cc w) in let first : pc ≡ pd = t.0 in let second : b ≡ d = t.1 in let third : by ≡ from = t.2 in cc) k e
kind_same (event.End kind) j h k e = naming.is_program_word_end (Only (event.End kind)) j (named_program (event.End kind) j e) (λ how r w. ap (λ (x : EndKind). event.End x) (end_same kind how h r (cc w))) k e
kind_same (event.Enter seq) j h k e = naming.is_pei_word_enter (Only (event.Enter seq)) j (named_pei (event.Enter seq) j e) (λ seq2 r w. ap (λ (n : ℕ). event.Enter n) (index seq seq2 h r (cc w))) k e
kind_same (event.Read seq) j h k e = naming.is_pei_word_read (Only (event.Read seq)) j (named_pei (event.Read seq) j e) (λ seq2 r w. ap (λ (n : ℕ). event.Read n) (index seq seq2 h r (cc w))) k e
kind_same (event.Leave seq) j h k e = naming.is_pei_word_leave (Only (event.Leave seq)) j (named_pei (event.Leave seq) j e) (λ seq2 r w. ap (λ (n : ℕ). event.Leave n) (index seq seq2 h r (cc w))) k e
kind_same (event.Place seq where_to) j h k e = naming.is_pei_word_place (Only (event.Place seq where_to)) j (named_pei (event.Place seq where_to) j e) (λ seq2 place2 r w. let first : seq ≡ seq2 = index seq seq2 h r (cc w) in let second : where_to ≡ place2 = place_same where_to place2 (cc w) in cc) k e
kind_same (event.Seal seq vault) j h k e = naming.is_pei_word_seal (Only (event.Seal seq vault)) j (named_pei (event.Seal seq vault) j e) (λ seq2 vault2 r w. let p = and_parts (is_index seq) (nat_lt vault 16) h in let q = and_parts (is_index seq2) (nat_lt vault2 16) r in let first : seq ≡ seq2 = index seq seq2 p.0 q.0 (cc w) in let second : vault ≡ vault2 = small 16 vault vault2 (lit≤ tt) p.1 q.1 (cc w) in cc) k e
kind_same (event.Act seq reply) j h k e = naming.is_pei_word_act (Only (event.Act seq reply)) j (named_pei (event.Act seq reply) j e) (λ seq2 reply2 r w. let p = and_parts (is_index seq) (reply_in_ranges reply) h in let q = and_parts (is_index seq2) (reply_in_ranges reply2) r in let first : seq ≡ seq2 = index seq seq2 p.0 q.0 (cc w) in let second : reply ≡ reply2 = reply_same reply reply2 p.1 q.1 (cc w) (cc w) in cc) k e
kind_same (event.Invalidate c b) j h k e = naming.is_message_word_inv (Only (event.Invalidate c b)) j (named_message (event.Invalidate c b) j e) (λ d a r w. let t = copy_same c d b a h r (cc w) (cc w) in let first : c ≡ d = t.0 in let second : b ≡ a = t.1 in cc) k e
kind_same (event.Downgrade c b) j h k e = naming.is_message_word_down (Only (event.Downgrade c b)) j (named_message (event.Downgrade c b) j e) (λ d a r w. let t = copy_same c d b a h r (cc w) (cc w) in let first : c ≡ d = t.0 in let second : b ≡ a = t.1 in cc) k e
kind_same (event.EvictL1 c b) j h k e = naming.is_message_word_evict1 (Only (event.EvictL1 c b)) j (named_message (event.EvictL1 c b) j e) (λ d a r w. let t = copy_same c d b a h r (cc w) (cc w) in let first : c ≡ d = t.0 in let second : b ≡ a = t.1 in cc) k e
kind_same (event.Clean b) j h k e = naming.is_message_word_clean (Only (event.Clean b)) j (named_message (event.Clean b) j e) (λ a r w. ap (λ (x : BlockNo). event.Clean x) (block b a h r (cc w))) k e
kind_same (event.EvictLlc b) j h k e = naming.is_message_word_evict2 (Only (event.EvictLlc b)) j (named_message (event.EvictLlc b) j e) (λ a r w. ap (λ (x : BlockNo). event.EvictLlc x) (block b a h r (cc w))) k e
kind_same (event.Fill b) j h k e = naming.is_message_word_fill (Only (event.Fill b)) j (named_message (event.Fill b) j e) (λ a r w. ap (λ (x : BlockNo). event.Fill x) (block b a h r (cc w))) k e
kind_same (event.GrantS b) j h k e = naming.is_message_word_grants (Only (event.GrantS b)) j (named_message (event.GrantS b) j e) (λ a r w. ap (λ (x : BlockNo). event.GrantS x) (block b a h r (cc w))) k e
kind_same (event.GrantE b) j h k e = naming.is_message_word_grante (Only (event.GrantE b)) j (named_message (event.GrantE b) j e) (λ a r w. ap (λ (x : BlockNo). event.GrantE x) (block b a h r (cc w))) k e
kind_same (event.GrantM b) j h k e = naming.is_message_word_grantm (Only (event.GrantM b)) j (named_message (event.GrantM b) j e) (λ a r w. ap (λ (x : BlockNo). event.GrantM x) (block b a h r (cc w))) k e

to_event : CoreId → Lane → EventKind → Event
to_event c l k = record { actor = record { core = c; lane = l }; kind = k }

-- the words of an event are not none
kind_split : (k j : EventKind) (m n : List ℕ) → kind_in_ranges k ≡ true → kind_in_ranges j ≡ true → words_then (event_words k) m ≡ words_then (event_words j) n → (event_words k ≡ event_words j) × (m ≡ n)
kind_split k j m n h i e =
    let a = naming.named_words k
    in let b = naming.named_words j
    in let t = words_split (name_of k) (name_of j) (args_of k) (args_of j) m n (subst ArePlain a (words_plain k h)) (subst ArePlain b (words_plain j i))
    (ap (λ ws. words_then ws m) (sym a) ∙ e ∙ ap (λ ws. words_then ws n) b)
    in (a ∙ t.0 ∙ sym b, t.1)

pub one_event : (e f : Event) (m n : List ℕ) → in_ranges e ≡ true → in_ranges f ≡ true → event_line e ++ m ≡ event_line f ++ n → (e ≡ f) × (m ≡ n)
unfolding to_event to_lane
one_event e f m n h k is =
    let p = and_parts (nat_lt e.actor.core.0 8 && nat_le e.actor.lane.0 4) (kind_in_ranges e.kind) h
    in let a = and_parts (nat_lt e.actor.core.0 8) (nat_le e.actor.lane.0 4) p.0
    in let q = and_parts (nat_lt f.actor.core.0 8 && nat_le f.actor.lane.0 4) (kind_in_ranges f.kind) k
    in let b = and_parts (nat_lt f.actor.core.0 8) (nat_le f.actor.lane.0 4) q.0
    in let lane : nat_lt e.actor.lane.0 5 ≡ true = let low = leb-true e.actor.lane.0 4 a.1 in lt-ltb e.actor.lane.0 5 (omega (arith, low))
    in let lane2 : nat_lt f.actor.lane.0 5 ≡ true = let low = leb-true f.actor.lane.0 4 b.1 in lt-ltb f.actor.lane.0 5 (omega (arith, low))
    in let t = word_split (decimal e.actor.core.0) (decimal f.actor.core.0) 46 46 _ _ (plain_small 8 e.actor.core.0 (lit≤ tt) a.0).all (plain_small 8 f.actor.core.0 (lit≤ tt) b.0).all refl refl (sym (event_then e m) ∙ is ∙ event_then f n)
    in let rest : decimal e.actor.lane.0 ++ 32 ∷ words_then (event_words e.kind) m ≡ decimal f.actor.lane.0 ++ 32 ∷ words_then (event_words f.kind) n = cc t.1
    in let u = word_split (decimal e.actor.lane.0) (decimal f.actor.lane.0) 32 32 _ _ (plain_small 5 e.actor.lane.0 (lit≤ tt) lane).all (plain_small 5 f.actor.lane.0 (lit≤ tt) lane2).all refl refl rest
    in let words : words_then (event_words e.kind) m ≡ words_then (event_words f.kind) n = cc u.1
    in let v = kind_split e.kind f.kind m n p.1 q.1 words
    in (
      ap (λ c. to_event c e.actor.lane e.kind) (core e.actor.core f.actor.core a.0 b.0 t.0)
          ∙ ap (λ l. to_event f.actor.core l e.kind) (ap to_lane (small 5 e.actor.lane.0 f.actor.lane.0 (lit≤ tt) lane lane2 u.0))
          ∙ ap (to_event f.actor.core f.actor.lane) (kind_same e.kind f.kind p.1 q.1 v.0),
      v.1,
    )

lines_same : (es fs : List Event) → list_all in_ranges es ≡ true → list_all in_ranges fs ≡ true → flat_map event_line es ≡ flat_map event_line fs → es ≡ fs
lines_same [] [] h k is = refl
lines_same [] (f ∷ fs) h k is = absurd (line_some f (flat_map event_line fs) (sym is))
lines_same (e ∷ es) [] h k is = absurd (line_some e (flat_map event_line es) is)
lines_same (e ∷ es) (f ∷ fs) h k is =
    let p = and_parts (in_ranges e) (list_all in_ranges es) h
    in let q = and_parts (in_ranges f) (list_all in_ranges fs) k
    in let t = one_event e f (flat_map event_line es) (flat_map event_line fs) p.0 q.0 is
    in ap (λ x. x ∷ es) t.0 ∙ ap (λ xs. f ∷ xs) (lines_same es fs p.1 q.1 t.1)

pub one_journal : (text : List ℕ) (journal other : List Event) → IsTrace text journal → IsTrace text other → journal ≡ other
one_journal text journal other one two =
    lines_same journal other one.ranged two.ranged
    (sym (drop-append_seam header (flat_map event_line journal)) ∙ ap (drop (length header)) (sym one.spelt ∙ two.spelt) ∙ drop-append_seam header (flat_map event_line other))
