-- What was known of both words after the publication is known after the withdrawal, and after an install of one.
use Rattle.board_trials.proofs.rows.withdrawn_and_installed.Goals as goal

pub installed-first-requires-clause-known : goal.installed-first-requires-clause-known
installed-first-requires-clause-known c = c.withdrawn-undecided.ensures.keeps c.version-one.result c.in-Ok.ensures.known

pub installed-second-requires-clause-known : goal.installed-second-requires-clause-known
installed-second-requires-clause-known c = c.installed-first.ensures.keeps c.value-two.result (c.withdrawn-undecided.ensures.keeps c.value-two.result c.in-Ok.ensures.second)
