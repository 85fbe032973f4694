use Rattle.std.proofs.Common.{refl}
use Rattle.like_replies.proofs.rows.RowTexts.{other_home-text, unknown_page-text, unknown_user-text}
use Rattle.like_replies.proofs.report.rows.refusal.Goals as goal

pub returns-in-UnknownUser : goal.returns-in-UnknownUser
returns-in-UnknownUser c = λ pages. rw (c.in-UnknownUser.is, unknown_user-text pages) refl

pub returns-in-OtherHome : goal.returns-in-OtherHome
returns-in-OtherHome c = λ pages. rw (c.in-OtherHome.is, other_home-text pages) refl

pub returns-in-UnknownPage : goal.returns-in-UnknownPage
returns-in-UnknownPage c = λ pages. rw (c.in-UnknownPage.is, unknown_page-text pages) refl
