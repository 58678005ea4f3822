use Rattle.tcp_link.proofs.Order.{news_first, frames_in_order, messages_in_order}
use Rattle.tcp_link.proofs.laws.gives_in_order.Goals as goal

pub returns-clause-news : goal.returns-clause-news
returns-clause-news c = news_first

pub returns-clause-frames : goal.returns-clause-frames
returns-clause-frames c = frames_in_order

pub returns-clause-messages : goal.returns-clause-messages
returns-clause-messages c = messages_in_order
