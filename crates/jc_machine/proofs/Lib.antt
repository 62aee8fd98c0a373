mod StackLaws
pub mod SinkLaws
pub mod HitLaws
pub mod RunLaws
pub mod RoomLaws
pub mod ThreadLaws
pub mod IntegralLaws
pub mod StaticEndLaws
pub mod CallingLaws
pub mod TurnLaws
pub mod ProbeLaws
pub mod MachineLaws
pub mod StandingLaws
pub mod StandingSeenLaws
pub mod LockedTurnLaws
pub mod ArgumentLaws
pub mod FirstLaws
pub mod BeginLaws
