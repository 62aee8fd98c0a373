mod OutputLaws
pub mod CallLaws
pub mod StackLaws
pub mod EffectLaws
pub mod SharedLaws
pub mod NextLaws
pub mod FirstLaws
