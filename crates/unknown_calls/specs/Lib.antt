pub mod UnknownCalls
