use Rattle.laws_requests.proofs.Unread.{answers_hide, same_read}
use Rattle.laws_requests.proofs.laws.answers_hide_the_unreadable.Goals as goal

pub returns-clause-read : goal.returns-clause-read
returns-clause-read c = same_read

pub returns-clause-all : goal.returns-clause-all
returns-clause-all c = answers_hide
