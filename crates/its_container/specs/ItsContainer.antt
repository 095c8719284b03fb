-- Written by tools/asn1/compile: change the ASN.1, not this file.
-- The module ITS-Container: below each definition in ASN.1 stands what the theorem takes it for.
use Rattle.rasn_below.specs.Page.{Component, TypeLists, automatic, big, bit_string, boolean, enumerated, extensible}
use Rattle.rasn_below.specs.Page.{extensible_automatic, extensible_enumerated, i16, i32, i8, integer, minus◌to◌}
use Rattle.rasn_below.specs.Page.{octet_string, optional, sequence, sequence_of, size◌to◌, u16, u32, u64, u8, ◌to◌}
use Rattle.std.specs.Prelude.{[], ◌∷◌}

-- StationID ::= INTEGER (0..4294967295)
abbrev pub station_id : Component
station_id = integer u32 (0 to 4294967295)

-- ItsPduHeader ::= SEQUENCE {
--     protocolVersion INTEGER (0..255),
--     messageID INTEGER { denm(1), cam(2), poi(3), spatem(4), mapem(5), ivim(6), ev-rsr(7), tistpgtransaction(8),
--         srem(9), ssem(10), evcsn(11), saem(12), rtcmem(13), cpm(14) } (0..255),
--     stationID StationID
-- }
abbrev pub its_pdu_header_lists : TypeLists
its_pdu_header_lists = automatic (
    integer u8 (0 to 255) ∷  -- protocolVersion
    integer u8 (0 to 255) ∷  -- messageID
    station_id ∷  -- stationID
    [])

abbrev pub its_pdu_header : Component
its_pdu_header = sequence its_pdu_header_lists

-- StationType ::= INTEGER { unknown(0), pedestrian(1), cyclist(2), moped(3), motorcycle(4), passengerCar(5),
--     bus(6), lightTruck(7), heavyTruck(8), trailer(9), specialVehicles(10), tram(11), roadSideUnit(15) } (0..255)
abbrev pub station_type : Component
station_type = integer u8 (0 to 255)

-- Latitude ::= INTEGER { oneMicrodegreeNorth(10), oneMicrodegreeSouth(-10), unavailable(900000001) }
--     (-900000000..900000001)
abbrev pub latitude : Component
latitude = integer i32 (minus 900000000 to 900000001)

-- Longitude ::= INTEGER { oneMicrodegreeEast(10), oneMicrodegreeWest(-10), unavailable(1800000001) }
--     (-1800000000..1800000001)
abbrev pub longitude : Component
longitude = integer i32 (minus 1800000000 to 1800000001)

-- SemiAxisLength ::= INTEGER { oneCentimeter(1), outOfRange(4094), unavailable(4095) } (0..4095)
abbrev pub semi_axis_length : Component
semi_axis_length = integer u16 (0 to 4095)

-- HeadingValue ::= INTEGER { wgs84North(0), wgs84East(900), wgs84South(1800), wgs84West(2700), unavailable(3601) }
--     (0..3601)
abbrev pub heading_value : Component
heading_value = integer u16 (0 to 3601)

-- PosConfidenceEllipse ::= SEQUENCE {
--     semiMajorConfidence SemiAxisLength,
--     semiMinorConfidence SemiAxisLength,
--     semiMajorOrientation HeadingValue
-- }
abbrev pub pos_confidence_ellipse_lists : TypeLists
pos_confidence_ellipse_lists = automatic (
    semi_axis_length ∷  -- semiMajorConfidence
    semi_axis_length ∷  -- semiMinorConfidence
    heading_value ∷  -- semiMajorOrientation
    [])

abbrev pub pos_confidence_ellipse : Component
pos_confidence_ellipse = sequence pos_confidence_ellipse_lists

-- AltitudeValue ::= INTEGER { referenceEllipsoidSurface(0), oneCentimeter(1), unavailable(800001) }
--     (-100000..800001)
abbrev pub altitude_value : Component
altitude_value = integer i32 (minus 100000 to 800001)

-- AltitudeConfidence ::= ENUMERATED { alt-000-01(0), alt-000-02(1), alt-000-05(2), alt-000-10(3), alt-000-20(4),
--     alt-000-50(5), alt-001-00(6), alt-002-00(7), alt-005-00(8), alt-010-00(9), alt-020-00(10), alt-050-00(11),
--     alt-100-00(12), alt-200-00(13), outOfRange(14), unavailable(15) }
abbrev pub altitude_confidence : Component
altitude_confidence = enumerated 16

-- Altitude ::= SEQUENCE {
--     altitudeValue AltitudeValue,
--     altitudeConfidence AltitudeConfidence
-- }
abbrev pub altitude_lists : TypeLists
altitude_lists = automatic (
    altitude_value ∷  -- altitudeValue
    altitude_confidence ∷  -- altitudeConfidence
    [])

abbrev pub altitude : Component
altitude = sequence altitude_lists

-- ReferencePosition ::= SEQUENCE {
--     latitude Latitude,
--     longitude Longitude,
--     positionConfidenceEllipse PosConfidenceEllipse,
--     altitude Altitude
-- }
abbrev pub reference_position_lists : TypeLists
reference_position_lists = automatic (
    latitude ∷  -- latitude
    longitude ∷  -- longitude
    pos_confidence_ellipse ∷  -- positionConfidenceEllipse
    altitude ∷  -- altitude
    [])

abbrev pub reference_position : Component
reference_position = sequence reference_position_lists

-- HeadingConfidence ::= INTEGER { equalOrWithinZeroPointOneDegree(1), equalOrWithinOneDegree(10), outOfRange(126),
--     unavailable(127) } (1..127)
abbrev pub heading_confidence : Component
heading_confidence = integer u8 (1 to 127)

-- Heading ::= SEQUENCE {
--     headingValue HeadingValue,
--     headingConfidence HeadingConfidence
-- }
abbrev pub heading_lists : TypeLists
heading_lists = automatic (
    heading_value ∷  -- headingValue
    heading_confidence ∷  -- headingConfidence
    [])

abbrev pub heading : Component
heading = sequence heading_lists

-- SpeedValue ::= INTEGER { standstill(0), oneCentimeterPerSec(1), unavailable(16383) } (0..16383)
abbrev pub speed_value : Component
speed_value = integer u16 (0 to 16383)

-- SpeedConfidence ::= INTEGER { equalOrWithinOneCentimeterPerSec(1), equalOrWithinOneMeterPerSec(100),
--     outOfRange(126), unavailable(127) } (1..127)
abbrev pub speed_confidence : Component
speed_confidence = integer u8 (1 to 127)

-- Speed ::= SEQUENCE {
--     speedValue SpeedValue,
--     speedConfidence SpeedConfidence
-- }
abbrev pub speed_lists : TypeLists
speed_lists = automatic (
    speed_value ∷  -- speedValue
    speed_confidence ∷  -- speedConfidence
    [])

abbrev pub speed : Component
speed = sequence speed_lists

-- DriveDirection ::= ENUMERATED { forward(0), backward(1), unavailable(2) }
abbrev pub drive_direction : Component
drive_direction = enumerated 3

-- VehicleLengthValue ::= INTEGER { tenCentimeters(1), outOfRange(1022), unavailable(1023) } (1..1023)
abbrev pub vehicle_length_value : Component
vehicle_length_value = integer u16 (1 to 1023)

-- VehicleLengthConfidenceIndication ::= ENUMERATED { noTrailerPresent(0), trailerPresentWithKnownLength(1),
--     trailerPresentWithUnknownLength(2), trailerPresenceIsUnknown(3), unavailable(4) }
abbrev pub vehicle_length_confidence_indication : Component
vehicle_length_confidence_indication = enumerated 5

-- VehicleLength ::= SEQUENCE {
--     vehicleLengthValue VehicleLengthValue,
--     vehicleLengthConfidenceIndication VehicleLengthConfidenceIndication
-- }
abbrev pub vehicle_length_lists : TypeLists
vehicle_length_lists = automatic (
    vehicle_length_value ∷  -- vehicleLengthValue
    vehicle_length_confidence_indication ∷  -- vehicleLengthConfidenceIndication
    [])

abbrev pub vehicle_length : Component
vehicle_length = sequence vehicle_length_lists

-- VehicleWidth ::= INTEGER { tenCentimeters(1), outOfRange(61), unavailable(62) } (1..62)
abbrev pub vehicle_width : Component
vehicle_width = integer u8 (1 to 62)

-- LongitudinalAccelerationValue ::= INTEGER { pointOneMeterPerSecSquaredForward(1),
--     pointOneMeterPerSecSquaredBackward(-1), unavailable(161) } (-160..161)
abbrev pub longitudinal_acceleration_value : Component
longitudinal_acceleration_value = integer i16 (minus 160 to 161)

-- AccelerationConfidence ::= INTEGER { pointOneMeterPerSecSquared(1), outOfRange(101), unavailable(102) } (0..102)
abbrev pub acceleration_confidence : Component
acceleration_confidence = integer u8 (0 to 102)

-- LongitudinalAcceleration ::= SEQUENCE {
--     longitudinalAccelerationValue LongitudinalAccelerationValue,
--     longitudinalAccelerationConfidence AccelerationConfidence
-- }
abbrev pub longitudinal_acceleration_lists : TypeLists
longitudinal_acceleration_lists = automatic (
    longitudinal_acceleration_value ∷  -- longitudinalAccelerationValue
    acceleration_confidence ∷  -- longitudinalAccelerationConfidence
    [])

abbrev pub longitudinal_acceleration : Component
longitudinal_acceleration = sequence longitudinal_acceleration_lists

-- CurvatureValue ::= INTEGER { straight(0), unavailable(1023) } (-1023..1023)
abbrev pub curvature_value : Component
curvature_value = integer i16 (minus 1023 to 1023)

-- CurvatureConfidence ::= ENUMERATED { onePerMeter-0-00002(0), onePerMeter-0-0001(1), onePerMeter-0-0005(2),
--     onePerMeter-0-002(3), onePerMeter-0-01(4), onePerMeter-0-1(5), outOfRange(6), unavailable(7) }
abbrev pub curvature_confidence : Component
curvature_confidence = enumerated 8

-- Curvature ::= SEQUENCE {
--     curvatureValue CurvatureValue,
--     curvatureConfidence CurvatureConfidence
-- }
abbrev pub curvature_lists : TypeLists
curvature_lists = automatic (
    curvature_value ∷  -- curvatureValue
    curvature_confidence ∷  -- curvatureConfidence
    [])

abbrev pub curvature : Component
curvature = sequence curvature_lists

-- CurvatureCalculationMode ::= ENUMERATED { yawRateUsed(0), yawRateNotUsed(1), unavailable(2), ... }
abbrev pub curvature_calculation_mode : Component
curvature_calculation_mode = extensible_enumerated 3 0

-- YawRateValue ::= INTEGER { straight(0), degSec-000-01ToRight(-1), degSec-000-01ToLeft(1), unavailable(32767) }
--     (-32766..32767)
abbrev pub yaw_rate_value : Component
yaw_rate_value = integer i16 (minus 32766 to 32767)

-- YawRateConfidence ::= ENUMERATED { degSec-000-01(0), degSec-000-05(1), degSec-000-10(2), degSec-001-00(3),
--     degSec-005-00(4), degSec-010-00(5), degSec-100-00(6), outOfRange(7), unavailable(8) }
abbrev pub yaw_rate_confidence : Component
yaw_rate_confidence = enumerated 9

-- YawRate ::= SEQUENCE {
--     yawRateValue YawRateValue,
--     yawRateConfidence YawRateConfidence
-- }
abbrev pub yaw_rate_lists : TypeLists
yaw_rate_lists = automatic (
    yaw_rate_value ∷  -- yawRateValue
    yaw_rate_confidence ∷  -- yawRateConfidence
    [])

abbrev pub yaw_rate : Component
yaw_rate = sequence yaw_rate_lists

-- AccelerationControl ::= BIT STRING { brakePedalEngaged(0), gasPedalEngaged(1), emergencyBrakeEngaged(2),
--     collisionWarningEngaged(3), accEngaged(4), cruiseControlEngaged(5), speedLimiterEngaged(6) } (SIZE (7))
abbrev pub acceleration_control : Component
acceleration_control = bit_string (size 7 to 7)

-- LanePosition ::= INTEGER { offTheRoad(-1), innerHardShoulder(0), innermostDrivingLane(1),
--     secondLaneFromInside(2), outerHardShoulder(14) } (-1..14)
abbrev pub lane_position : Component
lane_position = integer i8 (minus 1 to 14)

-- SteeringWheelAngleValue ::= INTEGER { straight(0), onePointFiveDegreesToRight(-1), onePointFiveDegreesToLeft(1),
--     unavailable(512) } (-511..512)
abbrev pub steering_wheel_angle_value : Component
steering_wheel_angle_value = integer i16 (minus 511 to 512)

-- SteeringWheelAngleConfidence ::= INTEGER { equalOrWithinOnePointFiveDegree(1), outOfRange(126), unavailable(127)
--     } (1..127)
abbrev pub steering_wheel_angle_confidence : Component
steering_wheel_angle_confidence = integer u8 (1 to 127)

-- SteeringWheelAngle ::= SEQUENCE {
--     steeringWheelAngleValue SteeringWheelAngleValue,
--     steeringWheelAngleConfidence SteeringWheelAngleConfidence
-- }
abbrev pub steering_wheel_angle_lists : TypeLists
steering_wheel_angle_lists = automatic (
    steering_wheel_angle_value ∷  -- steeringWheelAngleValue
    steering_wheel_angle_confidence ∷  -- steeringWheelAngleConfidence
    [])

abbrev pub steering_wheel_angle : Component
steering_wheel_angle = sequence steering_wheel_angle_lists

-- LateralAccelerationValue ::= INTEGER { pointOneMeterPerSecSquaredToRight(-1),
--     pointOneMeterPerSecSquaredToLeft(1), unavailable(161) } (-160..161)
abbrev pub lateral_acceleration_value : Component
lateral_acceleration_value = integer i16 (minus 160 to 161)

-- LateralAcceleration ::= SEQUENCE {
--     lateralAccelerationValue LateralAccelerationValue,
--     lateralAccelerationConfidence AccelerationConfidence
-- }
abbrev pub lateral_acceleration_lists : TypeLists
lateral_acceleration_lists = automatic (
    lateral_acceleration_value ∷  -- lateralAccelerationValue
    acceleration_confidence ∷  -- lateralAccelerationConfidence
    [])

abbrev pub lateral_acceleration : Component
lateral_acceleration = sequence lateral_acceleration_lists

-- VerticalAccelerationValue ::= INTEGER { pointOneMeterPerSecSquaredUp(1), pointOneMeterPerSecSquaredDown(-1),
--     unavailable(161) } (-160..161)
abbrev pub vertical_acceleration_value : Component
vertical_acceleration_value = integer i16 (minus 160 to 161)

-- VerticalAcceleration ::= SEQUENCE {
--     verticalAccelerationValue VerticalAccelerationValue,
--     verticalAccelerationConfidence AccelerationConfidence
-- }
abbrev pub vertical_acceleration_lists : TypeLists
vertical_acceleration_lists = automatic (
    vertical_acceleration_value ∷  -- verticalAccelerationValue
    acceleration_confidence ∷  -- verticalAccelerationConfidence
    [])

abbrev pub vertical_acceleration : Component
vertical_acceleration = sequence vertical_acceleration_lists

-- PerformanceClass ::= INTEGER { unavailable(0), performanceClassA(1), performanceClassB(2) } (0..7)
abbrev pub performance_class : Component
performance_class = integer u8 (0 to 7)

-- ProtectedZoneID ::= INTEGER (0..134217727)
abbrev pub protected_zone_id : Component
protected_zone_id = integer u32 (0 to 134217727)

-- CenDsrcTollingZoneID ::= ProtectedZoneID
abbrev pub cen_dsrc_tolling_zone_id : Component
cen_dsrc_tolling_zone_id = protected_zone_id

-- CenDsrcTollingZone ::= SEQUENCE {
--     protectedZoneLatitude Latitude,
--     protectedZoneLongitude Longitude,
--     cenDsrcTollingZoneID CenDsrcTollingZoneID OPTIONAL,
--     ...
-- }
abbrev pub cen_dsrc_tolling_zone_lists : TypeLists
cen_dsrc_tolling_zone_lists = extensible_automatic (
    latitude ∷  -- protectedZoneLatitude
    longitude ∷  -- protectedZoneLongitude
    optional cen_dsrc_tolling_zone_id ∷  -- cenDsrcTollingZoneID
    []) []

abbrev pub cen_dsrc_tolling_zone : Component
cen_dsrc_tolling_zone = sequence cen_dsrc_tolling_zone_lists

-- ProtectedZoneType ::= ENUMERATED { permanentCenDsrcTolling(0), ..., temporaryCenDsrcTolling(1) }
abbrev pub protected_zone_type : Component
protected_zone_type = extensible_enumerated 1 1

-- TimestampIts ::= INTEGER { utcStartOf2004(0), oneMillisecAfterUTCStartOf2004(1) } (0..4398046511103)
abbrev pub timestamp_its : Component
timestamp_its = integer u64 (0 to 4398046511103)

-- ProtectedZoneRadius ::= INTEGER { oneMeter(1) } (1..255, ...)
abbrev pub protected_zone_radius : Component
protected_zone_radius = integer big (extensible (1 to 255))

-- ProtectedCommunicationZone ::= SEQUENCE {
--     protectedZoneType ProtectedZoneType,
--     expiryTime TimestampIts OPTIONAL,
--     protectedZoneLatitude Latitude,
--     protectedZoneLongitude Longitude,
--     protectedZoneRadius ProtectedZoneRadius OPTIONAL,
--     protectedZoneID ProtectedZoneID OPTIONAL,
--     ...
-- }
abbrev pub protected_communication_zone_lists : TypeLists
protected_communication_zone_lists = extensible_automatic (
    protected_zone_type ∷  -- protectedZoneType
    optional timestamp_its ∷  -- expiryTime
    latitude ∷  -- protectedZoneLatitude
    longitude ∷  -- protectedZoneLongitude
    optional protected_zone_radius ∷  -- protectedZoneRadius
    optional protected_zone_id ∷  -- protectedZoneID
    []) []

abbrev pub protected_communication_zone : Component
protected_communication_zone = sequence protected_communication_zone_lists

-- ProtectedCommunicationZonesRSU ::= SEQUENCE (SIZE (1..16)) OF ProtectedCommunicationZone
abbrev pub protected_communication_zones_rsu : Component
protected_communication_zones_rsu = sequence_of (size 1 to 16) protected_communication_zone

-- VehicleRole ::= ENUMERATED { default(0), publicTransport(1), specialTransport(2), dangerousGoods(3),
--     roadWork(4), rescue(5), emergency(6), safetyCar(7), agriculture(8), commercial(9), military(10),
--     roadOperator(11), taxi(12), reserved1(13), reserved2(14), reserved3(15) }
abbrev pub vehicle_role : Component
vehicle_role = enumerated 16

-- ExteriorLights ::= BIT STRING { lowBeamHeadlightsOn(0), highBeamHeadlightsOn(1), leftTurnSignalOn(2),
--     rightTurnSignalOn(3), daytimeRunningLightsOn(4), reverseLightOn(5), fogLightOn(6), parkingLightsOn(7) }
--     (SIZE (8))
abbrev pub exterior_lights : Component
exterior_lights = bit_string (size 8 to 8)

-- DeltaLatitude ::= INTEGER { oneMicrodegreeNorth(10), oneMicrodegreeSouth(-10), unavailable(131072) }
--     (-131071..131072)
abbrev pub delta_latitude : Component
delta_latitude = integer i32 (minus 131071 to 131072)

-- DeltaLongitude ::= INTEGER { oneMicrodegreeEast(10), oneMicrodegreeWest(-10), unavailable(131072) }
--     (-131071..131072)
abbrev pub delta_longitude : Component
delta_longitude = integer i32 (minus 131071 to 131072)

-- DeltaAltitude ::= INTEGER { oneCentimeterUp(1), oneCentimeterDown(-1), unavailable(12800) } (-12700..12800)
abbrev pub delta_altitude : Component
delta_altitude = integer i16 (minus 12700 to 12800)

-- DeltaReferencePosition ::= SEQUENCE {
--     deltaLatitude DeltaLatitude,
--     deltaLongitude DeltaLongitude,
--     deltaAltitude DeltaAltitude
-- }
abbrev pub delta_reference_position_lists : TypeLists
delta_reference_position_lists = automatic (
    delta_latitude ∷  -- deltaLatitude
    delta_longitude ∷  -- deltaLongitude
    delta_altitude ∷  -- deltaAltitude
    [])

abbrev pub delta_reference_position : Component
delta_reference_position = sequence delta_reference_position_lists

-- PathDeltaTime ::= INTEGER { tenMilliSecondsInPast(1) } (1..65535, ...)
abbrev pub path_delta_time : Component
path_delta_time = integer big (extensible (1 to 65535))

-- PathPoint ::= SEQUENCE {
--     pathPosition DeltaReferencePosition,
--     pathDeltaTime PathDeltaTime OPTIONAL
-- }
abbrev pub path_point_lists : TypeLists
path_point_lists = automatic (
    delta_reference_position ∷  -- pathPosition
    optional path_delta_time ∷  -- pathDeltaTime
    [])

abbrev pub path_point : Component
path_point = sequence path_point_lists

-- PathHistory ::= SEQUENCE (SIZE (0..40)) OF PathPoint
abbrev pub path_history : Component
path_history = sequence_of (size 0 to 40) path_point

-- EmbarkationStatus ::= BOOLEAN
abbrev pub embarkation_status : Component
embarkation_status = boolean

-- PtActivationType ::= INTEGER { undefinedCodingType(0), r09-16CodingType(1), vdv-50149CodingType(2) } (0..255)
abbrev pub pt_activation_type : Component
pt_activation_type = integer u8 (0 to 255)

-- PtActivationData ::= OCTET STRING (SIZE (1..20))
abbrev pub pt_activation_data : Component
pt_activation_data = octet_string (size 1 to 20)

-- PtActivation ::= SEQUENCE {
--     ptActivationType PtActivationType,
--     ptActivationData PtActivationData
-- }
abbrev pub pt_activation_lists : TypeLists
pt_activation_lists = automatic (
    pt_activation_type ∷  -- ptActivationType
    pt_activation_data ∷  -- ptActivationData
    [])

abbrev pub pt_activation : Component
pt_activation = sequence pt_activation_lists

-- SpecialTransportType ::= BIT STRING { heavyLoad(0), excessWidth(1), excessLength(2), excessHeight(3) } (SIZE
--     (4))
abbrev pub special_transport_type : Component
special_transport_type = bit_string (size 4 to 4)

-- LightBarSirenInUse ::= BIT STRING { lightBarActivated(0), sirenActivated(1) } (SIZE (2))
abbrev pub light_bar_siren_in_use : Component
light_bar_siren_in_use = bit_string (size 2 to 2)

-- DangerousGoodsBasic ::= ENUMERATED { explosives1(0), explosives2(1), explosives3(2), explosives4(3),
--     explosives5(4), explosives6(5), flammableGases(6), nonFlammableGases(7), toxicGases(8), flammableLiquids(9),
--     flammableSolids(10), substancesLiableToSpontaneousCombustion(11),
--     substancesEmittingFlammableGasesUponContactWithWater(12), oxidizingSubstances(13), organicPeroxides(14),
--     toxicSubstances(15), infectiousSubstances(16), radioactiveMaterial(17), corrosiveSubstances(18),
--     miscellaneousDangerousSubstances(19) }
abbrev pub dangerous_goods_basic : Component
dangerous_goods_basic = enumerated 20

-- RoadworksSubCauseCode ::= INTEGER { unavailable(0), majorRoadworks(1), roadMarkingWork(2),
--     slowMovingRoadMaintenance(3), shortTermStationaryRoadworks(4), streetCleaning(5), winterService(6) }
--     (0..255)
abbrev pub roadworks_sub_cause_code : Component
roadworks_sub_cause_code = integer u8 (0 to 255)

-- HardShoulderStatus ::= ENUMERATED { availableForStopping(0), closed(1), availableForDriving(2) }
abbrev pub hard_shoulder_status : Component
hard_shoulder_status = enumerated 3

-- DrivingLaneStatus ::= BIT STRING (SIZE (1..13))
abbrev pub driving_lane_status : Component
driving_lane_status = bit_string (size 1 to 13)

-- ClosedLanes ::= SEQUENCE {
--     innerhardShoulderStatus HardShoulderStatus OPTIONAL,
--     outerhardShoulderStatus HardShoulderStatus OPTIONAL,
--     drivingLaneStatus DrivingLaneStatus OPTIONAL,
--     ...
-- }
abbrev pub closed_lanes_lists : TypeLists
closed_lanes_lists = extensible_automatic (
    optional hard_shoulder_status ∷  -- innerhardShoulderStatus
    optional hard_shoulder_status ∷  -- outerhardShoulderStatus
    optional driving_lane_status ∷  -- drivingLaneStatus
    []) []

abbrev pub closed_lanes : Component
closed_lanes = sequence closed_lanes_lists

-- CauseCodeType ::= INTEGER { reserved(0), trafficCondition(1), accident(2), roadworks(3), impassability(5),
--     adverseWeatherCondition-Adhesion(6), aquaplannning(7), hazardousLocation-SurfaceCondition(9),
--     hazardousLocation-ObstacleOnTheRoad(10), hazardousLocation-AnimalOnTheRoad(11), humanPresenceOnTheRoad(12),
--     wrongWayDriving(14), rescueAndRecoveryWorkInProgress(15),
--     adverseWeatherCondition-ExtremeWeatherCondition(17), adverseWeatherCondition-Visibility(18),
--     adverseWeatherCondition-Precipitation(19), slowVehicle(26), dangerousEndOfQueue(27), vehicleBreakdown(91),
--     postCrash(92), humanProblem(93), stationaryVehicle(94), emergencyVehicleApproaching(95),
--     hazardousLocation-DangerousCurve(96), collisionRisk(97), signalViolation(98), dangerousSituation(99) }
--     (0..255)
abbrev pub cause_code_type : Component
cause_code_type = integer u8 (0 to 255)

-- SubCauseCodeType ::= INTEGER (0..255)
abbrev pub sub_cause_code_type : Component
sub_cause_code_type = integer u8 (0 to 255)

-- CauseCode ::= SEQUENCE {
--     causeCode CauseCodeType,
--     subCauseCode SubCauseCodeType,
--     ...
-- }
abbrev pub cause_code_lists : TypeLists
cause_code_lists = extensible_automatic (
    cause_code_type ∷  -- causeCode
    sub_cause_code_type ∷  -- subCauseCode
    []) []

abbrev pub cause_code : Component
cause_code = sequence cause_code_lists

-- EmergencyPriority ::= BIT STRING { requestForRightOfWay(0), requestForFreeCrossingAtATrafficLight(1) } (SIZE
--     (2))
abbrev pub emergency_priority : Component
emergency_priority = bit_string (size 2 to 2)

-- TrafficRule ::= ENUMERATED { noPassing(0), noPassingForTrucks(1), passToRight(2), passToLeft(3), ... }
abbrev pub traffic_rule : Component
traffic_rule = extensible_enumerated 4 0

-- SpeedLimit ::= INTEGER { oneKmPerHour(1) } (1..255)
abbrev pub speed_limit : Component
speed_limit = integer u8 (1 to 255)
