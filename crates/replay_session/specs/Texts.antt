-- The texts of a session's replies, as their type holds them.
use Rattle.std.specs.Prelude.{ℕ, List}
use Rattle.replay_session.specs.Replies.{text_of}
use Rattle.replay_session.specs.declared.serving.reply_texts.Texts.{Texts}

-- the bytes of the report
unfoldable pub report_in : Texts → List ℕ
report_in texts = texts.report.items

-- the text of the reply that was stored last
unfoldable pub last_text : Texts → List ℕ
last_text texts = text_of texts.outcome texts.report.items
