-- The field that is read is one word more.
use Rattle.std.proofs.Common.{◌+◌, refl, sym, ap, ◌∙◌, ◌++◌, ◌∷◌, [], subst}
use Rattle.pc_exchange_law.specs.ExchangeConditions.{was_read}
use Rattle.pc_exchange_law.specs.Passes.{PassKnows}
use Rattle.pc_rule.specs.declared.opening.Place.{Place}
use Rattle.pc_rule.specs.Passes.{knows, listed, board_size}
use Rattle.exchange_race.specs.Racing.{MayRace, AreOfRace}
use Rattle.exchange_race.proofs.RaceWords.{race_more}
use Rattle.exchange_race.proofs.listing.list_field.Goals as goal

pub returns-clause-may : goal.returns-clause-may
returns-clause-may c = subst MayRace (sym (ap (λ s. s.me.0.view) c.word.ensures.only.0))
    c.read_number.ensures.may

pub returns-clause-listed : goal.returns-clause-listed
returns-clause-listed c = λ yes. let p = c.args.pass.now in let q = c.read_number.new.pass in let r = c.requires.listed in
    let change : Place = record { node = 1; field = c.field_in-field.result; old = c.in-Some.old; new = c.number_for-new.result } in
    let was = c.in-Some.ensures.number r.version.old r.seen.0 r.seen.1 in
    subst (λ (k : PassKnows). AreOfRace (board_size c.args.board.now) k (listed c.word.new.pass) (c.args.place + 1)) (sym (ap (λ s. s.me.0.knows) c.word.ensures.only.0))
    (race_more (board_size c.args.board.now) (knows p) (knows q) (listed p) (listed c.word.new.pass) c.args.place r c.read_number.ensures.told change
    (c.word.ensures.listed ∙ ap (λ v. v.items ++ change ∷ []) c.read_number.ensures.same.1) c.field_in-field.ensures
    record { node = refl; known = was_read was.0 was.1; keeps = c.number_for-new.ensures.keeps })
