mod SlowLaws
mod LookingLaws
