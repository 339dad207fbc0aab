-- The own attempt of a pass, of which both parts of its view speak.
use Rattle.std.specs.Prelude.{◌≡◌}
use Rattle.pc_exchange_law.specs.Wholes.{Whole}

-- both parts have the same number, say the same of whether it is published, and have the same stored words
pub record AgreeOnAttempt (x : Whole) : Type 0 where
  pub number : x.knows.own.number ≡ x.view.attempt.number
  pub busy : x.knows.own.busy ≡ x.view.attempt.published
  pub words : x.knows.own.words ≡ x.view.attempt.words
