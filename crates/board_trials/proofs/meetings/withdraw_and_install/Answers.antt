-- What was known of both words after the publication is known after the withdrawal.
use Rattle.board_trials.proofs.meetings.withdraw_and_install.Goals as goal

pub install_often-requires-clause-one : goal.install_often-requires-clause-one
install_often-requires-clause-one c = c.withdrawn-undecided.ensures.keeps c.version-one.result c.in-Ok.ensures.known

pub install_often-requires-clause-two : goal.install_often-requires-clause-two
install_often-requires-clause-two c = c.withdrawn-undecided.ensures.keeps c.value-two.result c.in-Ok.ensures.second
