-- The types of the code, and their variants, that several files of specs/ name.
use Rattle.like_live.specs.declared
pub use declared.{answer.GlanceAnswer.GlanceAnswer, answer.LikeAnswer.LikeAnswer, answer.LikeAnswer.TheVariants.Liked}
pub use declared.{answer.LookAnswer.LookAnswer, answer.TurnAnswer.TurnAnswer, asked.Asked.Asked, asked.Found.Found}
pub use declared.{call.Answer.Answer, call.Call.Call, driver_answer.DriverAnswer.DriverAnswer, driver_end.End.End}
pub use declared.{like_pair.LikePair.LikePair, like_pair.RowAnswer.RowAnswer, open_error.OpenError.OpenError}
pub use declared.{opening.Opening.Opening}
