-- What the exported contracts say together.
pub mod OneAnswer
