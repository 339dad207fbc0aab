-- The version that is read is the first word.
use Rattle.std.proofs.Common.{◌≡◌, ◌%◌, ◌+◌, refl, sym, ap, ◌∙◌, ◌++◌, ◌∷◌, [], subst, arith}
use Rattle.pc_model.specs.declared.cell.Field.TheVariants.{Version}
use Rattle.pc_exchange_law.specs.Passes.{PassKnows}
use Rattle.pc_rule.specs.declared.opening.Place.{Place}
use Rattle.pc_rule.specs.Passes.{knows, listed, board_size}
use Rattle.exchange_race.specs.Racing.{MayRace, AreOfRace}
use Rattle.exchange_race.proofs.RaceWords.{race_first}
use Rattle.exchange_race.proofs.listing.list_version.Goals as goal

pub returns-clause-may : goal.returns-clause-may
returns-clause-may c = subst MayRace (sym (ap (λ s. s.me.0.view) c.word.ensures.only.0))
    c.read_number.ensures.may

pub returns-clause-listed : goal.returns-clause-listed
returns-clause-listed c = λ yes. let q = c.read_number.new.pass in let even : (c.in-Some.old + 2) % 2 ≡ 0 = omega (arith, c.if-old-ne0.false) in
    let version : Place = record { node = 1; field = Version; old = c.in-Some.old; new = c.in-Some.old + 2 } in
    subst (λ (k : PassKnows). AreOfRace (board_size c.args.board.now) k (listed c.word.new.pass) 1) (sym (ap (λ s. s.me.0.knows) c.word.ensures.only.0))
    (race_first (board_size c.args.board.now) (knows q) version (listed c.word.new.pass)
    (c.word.ensures.listed ∙ ap (λ l. l ++ version ∷ []) (ap (λ v. v.items) c.read_number.ensures.same.1 ∙ c.requires.none))
    (refl, refl, refl) even (c.in-Some.ensures.version refl))
