use Rattle.std.proofs.Common.{◌≡◌, ◌∷◌, ap, sym, ◌∙◌, refl, subst, IfOk, Option}
use Rattle.kernel_text.specs.declared.senses.Wanted.TheVariants as wanted
use Rattle.kernel_text.specs.Lexemes.{token_of}
use Rattle.kernel_text.specs.Readings.{Reading, before, one_word, of_term, deepest, ending}
use Rattle.kernel_text.specs.Senses.{taken, next_token}
use Rattle.kernel_text.proofs.Agendas.{before_before}
use Rattle.kernel_text.proofs.agenda.Agenda.one_word.Goals as goal

-- a term, and what may follow it
pub returns : goal.returns
returns c =
    let no = sym c.is_word.ensures ∙ c.if-is_word.false
    in let other : one_word (token_of c.args.t) (next_token c.args.next) ≡ before (of_term deepest (token_of c.args.t) (next_token c.args.next)) (wanted.MoreTerms deepest ∷ ending) = rw no refl
    in let same = ap (before (of_term deepest (token_of c.args.t) (next_token c.args.next))) c.in_ok-want-2.ensures
    ∙ before_before (of_term deepest (token_of c.args.t) (next_token c.args.next)) (wanted.MoreTerms deepest ∷ ending) c.args.self.now
    ∙ ap (λ r. before r c.args.self.now) (sym other)
    in subst (λ (z : Option Reading). IfOk c.term.result (λ s. taken s c.term.new.self ≡ z)) same c.term.ensures
